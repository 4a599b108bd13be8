-- The contract of each call is its promise: what a caller learns of it is the predicate of `Promises`, no more and no less.
use Rattle.std.proofs.Common.{◌≡◌, refl}
use seplogic.Ra.Ura.{Ura}
use base.Logic.{SProp}
use prog.Memory.{Memory}
use prog.Routine.{Routine}
use types.Logic.{Logic}
use contract.Lifetimes.{Lfts}
use contract.Monad.{Fun, fact}
use denote.Triple.Clauses.{AtExit}
use denote.Triple.Entry.{Args, Res}
use Rattle.telltale.specs.Promises.{FreshPromise, BeginPromise, StampPromise}
use Rattle.telltale.proofs.fresh.Reads as fresh
use Rattle.telltale.specs.contracts.begin as begin
use Rattle.telltale.specs.contracts.stamp as stamp
use Rattle.telltale.proofs.after_begin.Reads as after_begin
use Rattle.telltale.proofs.after_stamp.Reads as after_stamp

fresh_promised : fresh.Learnt ≡ (λ κs a r e. FreshPromise r)
fresh_promised = refl

after_begin_promised : after_begin.Learnt ≡ (λ κs a r e. BeginPromise a.0 a.1.0 r)
after_begin_promised = refl

after_stamp_promised : after_stamp.Learnt ≡ (λ κs a r e. StampPromise a.0 a.1.0 r.answer r.left)
after_stamp_promised = refl

-- Of a call that is lent a struct no plain reading is made; its clause itself is the predicate.
module _ {M : Type 1} {𝓤 : Ura M} (𝓛 : Logic 𝓤) (at_mem : Memory → SProp 𝓤) (run : Routine → Fun 𝓤) (κs : Lfts 1) where
  begin_promised : (a : Args begin.signature κs) (r : Res begin.signature κs) (e : AtExit begin.ended κs) → (begin.clauses 𝓛 at_mem run κs a).ensures tt r e ≡ fact 𝓤 (BeginPromise a.0.now a.1.0 e.0.now)
  begin_promised a r e = refl

  stamp_promised : (a : Args stamp.signature κs) (r : Res stamp.signature κs) (e : AtExit stamp.ended κs) → (stamp.clauses 𝓛 at_mem run κs a).ensures tt r e ≡ fact 𝓤 (StampPromise a.0.now a.1.0 r e.0.now)
  stamp_promised a r e = refl
