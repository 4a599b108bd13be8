-- Of each of the nine sheets of document 01 the definitions say what it says: one evaluation of all rows, and one law for each of them.
use Rattle.std.specs.Prelude.{◌≡◌, refl, List, [], ◌∷◌, map}
use Rattle.std.proofs.Common.{◌∙◌}
use Rattle.arith.specs.Whole.{gcd, lcm, up}
use Rattle.bits.specs.Bits.{list_of}
use Rattle.arith.specs.Ranges.{sum, maximum, least}
use Rattle.theory.specs.Model.Responses.{hyperperiod, all_jobs}
use Rattle.theory.specs.Model.Greatest.{greatest}
use Rattle.theory.specs.Analysis.Clearing.{clearing}
use Rattle.theory.specs.Model.Chain.{sampling, sampling_release, bound}
use Rattle.sheet.specs.Fields.{task_fields, entry_fields, chain_fields, among, in_order}
use Rattle.sheet.specs.Calls.{judge_of}
use Rattle.sheet.specs.Tasks.{tasks_of}
use Rattle.nine.specs.Outcome.{outcome_of}
use Rattle.nine.proofs.Computed.{rows_by, computed_of, outcome_computed}
use Rattle.nine.specs.Nine.{Every, Sample, nine_sheets}

-- One evaluation of all rows, and one law for each of them.
rows_hold : (rs : List Sample) → map (λ r. computed_of r.on) rs ≡ map (λ r. r.says) rs → Every (λ r. outcome_of r.on ≡ r.says) rs
rows_hold [] e = tt
rows_hold (r ∷ rs) e = (outcome_computed r.on ∙ cc, rows_hold rs cc)

-- Of each of the nine sheets the definitions say what document 01 says.
pub nine : Every (λ r. outcome_of r.on ≡ r.says) nine_sheets
unfolding computed_of judge_of in_order task_fields entry_fields chain_fields among list_of tasks_of hyperperiod lcm gcd all_jobs sum greatest maximum least clearing rows_by sampling sampling_release bound up
nine = rows_hold nine_sheets refl
