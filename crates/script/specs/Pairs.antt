-- Numbers two by two, behind their count.
use Rattle.std.specs.Prelude.{ℕ, ◌+◌, List, [], ◌∷◌, length, take, drop, Some, None, Option, nat_le, if◌then◌else◌}
use Rattle.std.specs.Option.{option_map}

-- what numbers stand for two by two; a last one alone stands for nothing
abbrev pub in_pairs : {T : Type 0} → (ℕ → ℕ → T) → List ℕ → List T
in_pairs f [] = []
in_pairs f (a ∷ []) = []
in_pairs f (a ∷ (b ∷ rest)) = f a b ∷ in_pairs f rest

-- the numbers behind the count in `N A1 B1 .. AN BN`, and what stands behind them
abbrev pub parted : List ℕ → Option (List ℕ × List ℕ)
parted [] = None
parted (count ∷ rest) = if nat_le (count + count) (length rest) then Some (take (count + count) rest, drop (count + count) rest) else None

-- `N A1 B1 .. AN BN`, and what stands behind it
abbrev pub counted : {T : Type 0} → (ℕ → ℕ → T) → List ℕ → Option (List T × List ℕ)
counted f numbers = option_map (λ p. (in_pairs f p.0, p.1)) (parted numbers)

abbrev pub alone : {T : Type 0} → Option (List T × List ℕ) → Option (List T)
alone None = None
alone (Some (all, [])) = Some all
alone (Some (all, b ∷ bs)) = None

-- `N A1 B1 .. AN BN`, and nothing behind it
abbrev pub counted_alone : {T : Type 0} → (ℕ → ℕ → T) → List ℕ → Option (List T)
counted_alone f numbers = alone (counted f numbers)
