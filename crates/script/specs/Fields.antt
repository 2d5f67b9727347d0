-- The fields of a line, parted by single spaces (byte 32).
use Rattle.std.specs.Prelude.{ℕ, ◌+◌, ◌-◌, ◌*◌, ◌^◌, ◌<◌, Bool, ◌&&◌, if◌then◌else◌, List, [], ◌∷◌, ◌++◌, length, Some, None, Option, ◌==◌, ◌≢◌, nat_le, nat_lt, slice_index}
use Rattle.std.specs.Option.{unwrap_or}

-- no byte of a text is a space
abbrev pub Unspaced : List ℕ → Type 0
Unspaced text = (i : ℕ) → i < length text → slice_index text i ≢ 32

abbrev pub is_digit : ℕ → Bool
is_digit b = nat_le 48 b && nat_le b 57

-- a number after one more byte: a digit, and at most 32 bits
abbrev pub with_digit : ℕ → ℕ → Option ℕ
with_digit n b = if is_digit b && nat_lt (n * 10 + (b - 48)) (2 ^ 32) then Some (n * 10 + (b - 48)) else None

-- the numbers of a text, read from the left, after those already read and the digits of one, if any has come; a space ends a number
abbrev pub numbers_from : List ℕ → Option ℕ → List ℕ → Option (List ℕ)
numbers_from done None [] = None
numbers_from done (Some n) [] = Some (done ++ n ∷ [])
numbers_from done so_far (b ∷ bs) =
    if b == 32 then elim so_far [ Some n ↦ numbers_from (done ++ n ∷ []) None bs | None ↦ None ]
    else elim (with_digit (unwrap_or so_far 0) b) [ Some n ↦ numbers_from done (Some n) bs | None ↦ None ]

abbrev pub numbers_of : List ℕ → Option (List ℕ)
numbers_of text = numbers_from [] None text
