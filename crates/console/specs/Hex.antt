-- Bytes in hexadecimal.
use Rattle.std.specs.Prelude.{ℕ, ◌+◌, ◌-◌, ◌*◌, cond, ◌&&◌, List, [], ◌∷◌, ◌++◌, Some, None, Option, nat_le}

-- 0 to 9, a to f or A to F
abbrev pub digit_of : ℕ → Option ℕ
digit_of b =
    cond (nat_le 48 b && nat_le b 57) (Some (b - 48))
    (cond (nat_le 97 b && nat_le b 102) (Some (b - 97 + 10))
    (cond (nat_le 65 b && nat_le b 70) (Some (b - 65 + 10)) None))

abbrev pub pair_of : Option ℕ → Option ℕ → Option ℕ
pair_of None low = None
pair_of (Some h) None = None
pair_of (Some h) (Some l) = Some (h * 16 + l)

-- the bytes of a text of digits, two a byte, behind those already read
abbrev pub bytes_after : List ℕ → List ℕ → Option (List ℕ)
bytes_after done [] = Some done
bytes_after done (a ∷ []) = None
bytes_after done (a ∷ (b ∷ rest)) = elim (pair_of (digit_of a) (digit_of b)) [
  | Some x ↦ bytes_after (done ++ x ∷ []) rest
  | None ↦ None
]

abbrev pub bytes_of : List ℕ → Option (List ℕ)
bytes_of text = bytes_after [] text
