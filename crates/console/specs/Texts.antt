-- The rack's answers in words.
use Rattle.std.specs.Prelude.{ℕ, List, [], ◌++◌, Ok, Err, codes, decimal, Result}
use Rattle.std.specs.List.{flat_map}
use Rattle.tasks.specs.declared.units.Ticks.{Ticks}
use Rattle.tasks.specs.declared.units.Units.{Units}
use Rattle.seating.specs.declared.refusal.AdmitRefusal.{AdmitRefusal}
use Rattle.seating.specs.declared.refusal.AdmitRefusal.TheVariants as admits
use Rattle.seating.specs.declared.refusal.WithdrawRefusal.{WithdrawRefusal}
use Rattle.seating.specs.declared.refused.Refused.TheVariants.{Admitting, Withdrawing}
use Rattle.seating.specs.Refusals.{refused_text}

-- each entry behind a space
abbrev pub entries_text : List ℕ → List ℕ
entries_text entries = flat_map (λ n. codes " " ++ decimal n) entries

-- the whole sheet where no processor would take the task, else nothing of it
abbrev pub sheet_text : AdmitRefusal → List ℕ → List ℕ
sheet_text admits.ShortSheet sheet = []
sheet_text admits.NumberZero sheet = []
sheet_text admits.BadPeriod sheet = []
sheet_text admits.BadWork sheet = []
sheet_text admits.AlreadySeated sheet = []
sheet_text admits.AllFull sheet = []
sheet_text admits.NoTaker sheet = entries_text sheet

abbrev pub turned_text : AdmitRefusal → List ℕ → List ℕ
turned_text e sheet = refused_text (Admitting e) ++ sheet_text e sheet

-- `ok P INSTANT`
abbrev pub granted_text : ℕ → ℕ → List ℕ
granted_text processor instant = codes "ok " ++ (decimal processor ++ (codes " " ++ decimal instant))

abbrev pub admit_text : Result (ℕ × Ticks) AdmitRefusal → List ℕ → List ℕ
admit_text (Ok a) sheet = granted_text a.0 a.1.0
admit_text (Err e) sheet = turned_text e sheet

-- `ok P C T`
abbrev pub left_text : ℕ → ℕ → ℕ → List ℕ
left_text processor work period = codes "ok " ++ (decimal processor ++ (codes " " ++ (decimal work ++ (codes " " ++ decimal period))))

abbrev pub withdraw_text : Result (ℕ × Units × Ticks) WithdrawRefusal → List ℕ
withdraw_text (Ok a) = left_text a.0 a.1.0 a.2.0
withdraw_text (Err e) = refused_text (Withdrawing e)
