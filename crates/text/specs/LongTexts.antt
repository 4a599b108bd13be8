-- What lies past the byte after the last that a text may have never changes the answer.
use Rattle.std.specs.Prelude.{◌≡◌, cond, List, ℕ, ◌<◌, length, take, Err}
use Rattle.std.proofs.Common.{sym, ap, ◌∙◌, arith, length-take, take_all, take-take, lt-ltb}
use Rattle.std.proofs.Math.Decide.{dec_lt}
use Rattle.text.specs.declared.Wrong.TheVariants.{TooLong}
use Rattle.text.specs.declared.Place.TheVariants.{Between}
use Rattle.text.specs.Grammar.{fresh}
use Rattle.text.specs.Run.{run, nameless, faulty, located, settled, parse_of}

too_long_lem : (text : List ℕ) → 16384 < length text → parse_of text ≡ Err (faulty TooLong (take 16384 text))
unfolding parse_of
too_long_lem text h = ap (λ b. cond b (Err (faulty TooLong (take 16384 text))) (settled (located text (run nameless Between fresh text)))) (lt-ltb 16384 (length text) h)

pub parse_front : (text : List ℕ) → parse_of (take 16385 text) ≡ parse_of text
parse_front text = go (dec_lt 16384 (length text))
  where
    go : Dec (16384 < length text) → parse_of (take 16385 text) ≡ parse_of text
    go (yes l) =
        too_long_lem (take 16385 text) (omega (arith, length-take 16385 text)) ∙ ap (λ l. Err (faulty TooLong l)) (take-take 16384 16385 text (omega arith)) ∙ sym (too_long_lem text l)
    go (no l) = ap parse_of (take_all 16385 text (omega arith))
