-- Place by place one row more is copied.
use Rattle.std.proofs.Common.{◌≡◌, length}
use Rattle.chain.specs.Paths.{Copied}
use Rattle.chain.proofs.filled.Filled.path.Given as goal

abbrev pub invariant-loop-j : goal.invariant-loop-j
invariant-loop-j l = record { whole : length l.path ≡ 16; copied : Copied l.chain l.rows l.j l.path }
