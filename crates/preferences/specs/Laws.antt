-- What every preference owes.
use Rattle.std.specs.Prelude.{◌≡◌, Bool, true, false, not}
use Rattle.preferences.specs.declared.contender.Contender.{Contender}

-- whether the first of two processors, each with its number and its load, goes before the second
abbrev pub Relation : Type 0
Relation = Contender → Contender → Bool

pub record PreferenceLaws (before : Relation) : Type 0 where
  -- no processor goes before itself at the same load
  pub never_itself : (a : Contender) → before a a ≡ false
  -- of two with different numbers exactly one goes before the other
  pub one_of_two : (a b : Contender) → (a.number ≡ b.number → ⊥) → before a b ≡ not (before b a)
  -- one that goes before a second goes before what the second goes before
  pub chains : (a b c : Contender) → before a b ≡ true → before b c ≡ true → before a c ≡ true
