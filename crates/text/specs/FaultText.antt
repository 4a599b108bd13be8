-- What is printed of a fault: `mistake` or `refused` and the number, and then the place.
use Rattle.std.specs.Prelude.{List, ℕ, ◌++◌, ◌-◌, nat_lt, if◌then◌else◌, codes, decimal}
use Rattle.text.specs.declared.Fault.{Fault}
use Rattle.text.specs.Grammar.{number_of}

-- A refusal's number is 100 more.
abbrev pub kind_text : ℕ → List ℕ
kind_text n = if nat_lt n 100 then codes "mistake " ++ decimal n else codes "refused " ++ decimal (n - 100)

abbrev pub fault_text : Fault → List ℕ
fault_text fault = kind_text (number_of fault.wrong) ++ codes " line " ++ decimal fault.line ++ codes " column " ++ decimal fault.column
