-- What document 01 prints for a sheet, by the definitions that the calls promise: a table of responses, the sampling figure, its release and the bound; or a refusal.
use Rattle.std.specs.Prelude.{List, ℕ, length}
use Rattle.sheet.specs.declared.Sheet.{Sheet}
use Rattle.answers.specs.Answers.{Answer, given, after}
use Rattle.sheet.specs.Tasks.{tasks_of}
use Rattle.schedule.specs.Calls.{most_jobs, rows}
use Rattle.chain.specs.Calls.{figures_of}

pub record Figures : Type 0 where
  pub table : List ℕ
  pub sampling : ℕ
  pub release : ℕ
  pub bound : ℕ

-- The answer of `figures` for chain 1, with a table that is large enough for every sheet, and that table.
unfoldable pub outcome_of : Sheet → Answer Figures
outcome_of s =
    after (figures_of s 1 most_jobs) λ x.
    given (record {
      table = rows (tasks_of s) (length (tasks_of s));
      sampling = x.sampling.ticks;
      release = x.sampling.release;
      bound = x.sampling_bound;
    })
