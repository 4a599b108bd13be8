-- The laws of a call, as the proofs of the code and of runs cite them.
use Rattle.std.specs.Prelude.{◌≡◌, ℕ, ◌+◌, ◌-◌, ◌%◌, ◌^◌, ◌<◌, ◌≤◌, true, false, cond, []}
use Rattle.std.proofs.Common.{sym, arith}
use borrow.Author.Tests.{le-leb, lt-leb}
use Rattle.answers.specs.Answers.{given, refused}
use Rattle.answers.specs.NumberLaws.{Numbered, given_numbered, when_numbered, also_numbered}
use Rattle.telltale.specs.declared.Record.{Record}
use Rattle.telltale.specs.Calls.{elapsed, begun_of, too_long, stamp_of}

-- The elapsed time is the only number below 2^32 that leads from one counter to the other.
pub elapsed_is : (from to ticks : ℕ) → from < 2 ^ 32 → ticks < 2 ^ 32 → (ticks + from) % 2 ^ 32 ≡ to → ticks ≡ elapsed from to
unfolding elapsed
elapsed_is from to ticks hf ht e = omega (arith, e)

-- So between two ticks that lie less than 2^32 apart it is their distance.
pub elapsed_apart : (from to : ℕ) → from ≤ to → to - from < 2 ^ 32 → elapsed (from % 2 ^ 32) (to % 2 ^ 32) ≡ to - from
elapsed_apart from to h l = sym (elapsed_is (from % 2 ^ 32) (to % 2 ^ 32) (to - from) (omega arith) l (omega arith))

module _ (r : Record) (counter : ℕ) where
  -- Begin: with a reading under way nothing changes, else one begins.
  pub begin_kept : r.underway ≡ true → begun_of r counter ≡ r
  unfolding begun_of
  begin_kept h = rw h

  pub begin_new : r.underway ≡ false → begun_of r counter ≡ record { underway = true; counter = counter; longest = r.longest; count = r.count }
  unfolding begun_of
  begin_new h = rw h

  -- Stamp: 25 with none under way, 26 for a time too long, else the time.
  pub stamp_none : r.underway ≡ false → stamp_of r counter ≡ refused 25 []
  unfolding stamp_of
  stamp_none h = rw h

  pub stamp_long : r.underway ≡ true → 2147483648 ≤ elapsed r.counter counter → stamp_of r counter ≡ refused 26 []
  unfolding stamp_of
  stamp_long h l = rw (h, le-leb _ _ l)

  pub stamp_taken : r.underway ≡ true → elapsed r.counter counter < 2147483648 → stamp_of r counter ≡ given (elapsed r.counter counter)
  unfolding stamp_of
  stamp_taken h l = rw (h, lt-leb _ _ l)

  -- No other number is given.
  pub stamp_numbered : Numbered 25 26 (stamp_of r counter)
  unfolding stamp_of
  stamp_numbered =
      also_numbered (when_numbered (cond r.underway false true) 25 (omega arith) (omega arith))
      (also_numbered (when_numbered (too_long (elapsed r.counter counter)) 26 (omega arith) (omega arith)) (given_numbered (elapsed r.counter counter)))
