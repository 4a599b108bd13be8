-- The contract of each call is its promise: what a caller learns of it is the predicate of `Promises`, no more and no less.
use mathlib.Core.Path.{◌≡◌, refl}
use Rattle.chain.specs.Promises.{DelayPromise, MarginPromise, DefaultMarginPromise, FiguresPromise, SuitePromise}
use Rattle.chain.proofs.delay.Reads as delay
use Rattle.chain.proofs.margin.Reads as margin
use Rattle.chain.proofs.default_margin.Reads as default_margin
use Rattle.chain.proofs.figures.Reads as figures
use Rattle.chain.proofs.suite.Reads as suite

delay_promised : delay.Learnt ≡ (λ κs a r e. DelayPromise a.0 a.1.0 a.1.1.0 a.1.1.1.0.now r e.1.1.1.0.now)
delay_promised = refl

margin_promised : margin.Learnt ≡ (λ κs a r e. MarginPromise a.0 a.1.0 a.1.1.0 a.1.1.1.0.now r e.1.1.1.0.now)
margin_promised = refl

default_margin_promised : default_margin.Learnt ≡ (λ κs a r e. DefaultMarginPromise a.0 a.1.0 a.1.1.0.now r e.1.1.0.now)
default_margin_promised = refl

figures_promised : figures.Learnt ≡ (λ κs a r e. FiguresPromise a.0 a.1.0 a.1.1.0.now r e.1.1.0.now)
figures_promised = refl

suite_promised : suite.Learnt ≡ (λ κs a r e. SuitePromise a.0 a.1.0.now r e.1.0.now)
suite_promised = refl
