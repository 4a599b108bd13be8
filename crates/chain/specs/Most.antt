-- The largest figures. A period, and so a response, is at most 100,000; then a hand-over takes at most 200,000 ticks, a chain of sixteen tasks
-- at most 3,100,000, from a flag on at most 3,200,000, and from a release before H no release on its way is later than 4,000,000.
use Rattle.std.specs.Prelude.{ℕ}

abbrev pub most_period : ℕ
most_period = 100000

abbrev pub most_wait : ℕ
most_wait = 200000

abbrev pub most_figure : ℕ
most_figure = 3100000

abbrev pub most_worst : ℕ
most_worst = 3200000

abbrev pub most_release : ℕ
most_release = 4000000
