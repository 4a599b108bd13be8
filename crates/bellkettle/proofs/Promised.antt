-- The contract of each call is its promise: what a caller learns of it is the predicate of `Promises`, no more and no less.
use mathlib.Core.Path.{◌≡◌, refl}
use seplogic.Ra.Ura.{Ura}
use base.Logic.{SProp}
use prog.Memory.{Memory}
use prog.Routine.{Routine}
use types.Logic.{Logic}
use contract.Lifetimes.{Lfts}
use contract.Monad.{Fun, fact}
use denote.Triple.Clauses.{AtExit}
use denote.Triple.Entry.{Args, Res}
use Rattle.bellkettle.specs.declared.Question.{Question}
use Rattle.bellkettle.specs.Promises.{SheetAsked, QuickAsked, SheetRead, SheetWritten, ReplayAsked, RecordBegun, RecordStamped}
use Rattle.bellkettle.proofs.bellkettle_responses.Reads as bellkettle_responses
use Rattle.bellkettle.proofs.bellkettle_delay.Reads as bellkettle_delay
use Rattle.bellkettle.proofs.bellkettle_margin.Reads as bellkettle_margin
use Rattle.bellkettle.proofs.bellkettle_default_margin.Reads as bellkettle_default_margin
use Rattle.bellkettle.proofs.bellkettle_figures.Reads as bellkettle_figures
use Rattle.bellkettle.proofs.bellkettle_quick_bound.Reads as bellkettle_quick_bound
use Rattle.bellkettle.proofs.bellkettle_read.Reads as bellkettle_read
use Rattle.bellkettle.proofs.bellkettle_write.Reads as bellkettle_write
use Rattle.bellkettle.proofs.bellkettle_replay.Reads as bellkettle_replay
use Rattle.bellkettle.specs.contracts.bellkettle_begin as bellkettle_begin
use Rattle.bellkettle.specs.contracts.bellkettle_stamp as bellkettle_stamp

bellkettle_responses_promised : bellkettle_responses.Learnt ≡ (λ κs a r e. SheetAsked Question.Responses a.0.now r a.1.1.0.now e.1.1.0.now a.1.0.now e.1.0.now)
bellkettle_responses_promised = refl

bellkettle_delay_promised : bellkettle_delay.Learnt ≡ (λ κs a r e. SheetAsked (Question.Delay a.1.0 a.1.1.0) a.0.now r a.1.1.1.1.0.now e.1.1.1.1.0.now a.1.1.1.0.now e.1.1.1.0.now)
bellkettle_delay_promised = refl

bellkettle_margin_promised : bellkettle_margin.Learnt ≡ (λ κs a r e. SheetAsked (Question.Margin a.1.0 a.1.1.0) a.0.now r a.1.1.1.1.0.now e.1.1.1.1.0.now a.1.1.1.0.now e.1.1.1.0.now)
bellkettle_margin_promised = refl

bellkettle_default_margin_promised : bellkettle_default_margin.Learnt ≡ (λ κs a r e. SheetAsked (Question.DefaultMargin a.1.0) a.0.now r a.1.1.1.0.now e.1.1.1.0.now a.1.1.0.now e.1.1.0.now)
bellkettle_default_margin_promised = refl

bellkettle_figures_promised : bellkettle_figures.Learnt ≡ (λ κs a r e. SheetAsked (Question.Figures a.1.0) a.0.now r a.1.1.1.0.now e.1.1.1.0.now a.1.1.0.now e.1.1.0.now)
bellkettle_figures_promised = refl

bellkettle_quick_bound_promised : bellkettle_quick_bound.Learnt ≡ (λ κs a r e. QuickAsked a.0.now a.1.0 r a.1.1.0.now e.1.1.0.now)
bellkettle_quick_bound_promised = refl

bellkettle_read_promised : bellkettle_read.Learnt ≡ (λ κs a r e. SheetRead a.0.now r a.1.1.1.1.1.1.1.0.now e.1.1.1.1.1.1.1.0.now a.1.0.now e.1.0.now a.1.1.0.now e.1.1.0.now a.1.1.1.0.now e.1.1.1.0.now a.1.1.1.1.0.now e.1.1.1.1.0.now a.1.1.1.1.1.0.now e.1.1.1.1.1.0.now a.1.1.1.1.1.1.0.now e.1.1.1.1.1.1.0.now)
bellkettle_read_promised = refl

bellkettle_write_promised : bellkettle_write.Learnt ≡ (λ κs a r e. SheetWritten a.0 a.1.0.now a.1.1.0.now a.1.1.1.0.now a.1.1.1.1.0.now a.1.1.1.1.1.0.now a.1.1.1.1.1.1.0.now r a.1.1.1.1.1.1.1.1.0.now e.1.1.1.1.1.1.1.1.0.now a.1.1.1.1.1.1.1.0.now e.1.1.1.1.1.1.1.0.now)
bellkettle_write_promised = refl

bellkettle_replay_promised : bellkettle_replay.Learnt ≡ (λ κs a r e. ReplayAsked a.0.now a.1.0.now r a.1.1.1.0.now e.1.1.1.0.now a.1.1.0.now e.1.1.0.now)
bellkettle_replay_promised = refl

-- Of a call that is lent a struct no plain reading is made; its clause itself is the predicate.
module _ {M : Type 1} {𝓤 : Ura M} (𝓛 : Logic 𝓤) (at_mem : Memory → SProp 𝓤) (run : Routine → Fun 𝓤) where
  bellkettle_begin_promised : (κs : Lfts 1) (a : Args bellkettle_begin.signature κs) (r : Res bellkettle_begin.signature κs) (e : AtExit bellkettle_begin.ended κs) → (bellkettle_begin.clauses 𝓛 at_mem run κs a).ensures tt r e ≡ fact 𝓤 (RecordBegun a.0.now a.1.0 e.0.now)
  bellkettle_begin_promised κs a r e = refl

  bellkettle_stamp_promised : (κs : Lfts 2) (a : Args bellkettle_stamp.signature κs) (r : Res bellkettle_stamp.signature κs) (e : AtExit bellkettle_stamp.ended κs) → (bellkettle_stamp.clauses 𝓛 at_mem run κs a).ensures tt r e ≡ fact 𝓤 (RecordStamped a.0.now a.1.0 r a.1.1.0.now e.1.1.0.now e.0.now)
  bellkettle_stamp_promised κs a r e = refl
