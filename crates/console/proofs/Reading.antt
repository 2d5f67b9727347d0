-- How a line is read: its word, and bytes in hexadecimal.
use Rattle.std.proofs.Common.{MatchOption, MatchResult, Option, Result, Some, None, Ok, Err, ◌≡◌, ◌≢◌, ◌-◌, ℕ, ◌≤◌, List, [], ◌∷◌, ◌++◌, length, get_or, take, drop, sym, refl, ap, ◌∙◌, arith}
use Rattle.std.proofs.lemmas.List.{length-append, take_at, take_rest, drop_at}
use Rattle.std.specs.Result.{result_ok}
use Rattle.std.proofs.lemmas.Option.{none-some}
use Rattle.script.specs.Fields.{Unspaced}
use Rattle.script.specs.Calls.{word_length}
use Rattle.script.proofs.Wording.{length-unspaced, length-spaced}
use Rattle.console.specs.declared.words.Word.{Word}
use Rattle.console.specs.declared.words.Word.TheVariants.{Read, Play, Make, Admit, Withdraw, Find, Load, Seats}
use Rattle.script.specs.declared.no_call.NoCall.{NoCall}
use Rattle.script.specs.declared.no_call.NoCall.TheVariants.{Unreadable}
use Rattle.console.specs.Hex.{digit_of, pair_of, bytes_after}
use Rattle.console.specs.Names.{name_of}

-- a word ends at the first space
named_length : (w : Word) (rest : List ℕ) → word_length (name_of w ++ (32 ∷ rest)) ≡ length (name_of w)
named_length Read rest = refl
named_length Play rest = refl
named_length Make rest = refl
named_length Admit rest = refl
named_length Withdraw rest = refl
named_length Find rest = refl
named_length Load rest = refl
named_length Seats rest = refl

-- no text without a space is one with a space
pub no_space_at : (line a r : List ℕ) → Unspaced line → line ≡ a ++ (32 ∷ r) → word_length (a ++ (32 ∷ r)) ≡ length a → ⊥
no_space_at line a r h e n = omega (arith, length-unspaced line h, ap word_length e, n, ap (λ l. length l) e, length-append a (32 ∷ r))

pub no_space : (line : List ℕ) → Unspaced line → (w : Word) (rest : List ℕ) → line ≡ name_of w ++ (32 ∷ rest) → ⊥
no_space line h w rest e = no_space_at line (name_of w) rest h e (named_length w rest)

pub same_front : (a b r s : List ℕ) → length b ≡ length a → a ++ r ≡ b ++ s → a ≡ b
same_front a b r s l e = sym (take_at a r (length a) refl) ∙ ap (λ x. take (length a) x) e ∙ take_at b s (length a) l

pub same_back : (a b r s : List ℕ) → length b ≡ length a → a ++ r ≡ b ++ s → r ≡ s
same_back a b r s l e = sym (drop_at a r (length a) refl) ∙ ap (λ x. drop (length a) x) e ∙ drop_at b s (length a) l

same_word : (line a r : List ℕ) → line ≡ a ++ (32 ∷ r) → Unspaced a → (w : Word) (rest : List ℕ) → line ≡ name_of w ++ (32 ∷ rest) → a ≡ name_of w
same_word line a r e h w rest f =
    same_front a (name_of w) (32 ∷ r) (32 ∷ rest) (sym (named_length w rest) ∙ sym (ap word_length f) ∙ ap word_length e ∙ length-spaced a r h) (sym e ∙ f)

pub other_word : (line a r : List ℕ) → line ≡ a ++ (32 ∷ r) → Unspaced a → ((w : Word) → a ≢ name_of w) → (w : Word) (rest : List ℕ) → line ≢ name_of w ++ (32 ∷ rest)
other_word line a r e h other w rest f = other w (same_word line a r e h w rest f)

-- where there is no word
pub at_none : {A : Type 0} (o : Option A) (P : Type 0) (Q : A → Type 0) → o ≡ None → P → MatchOption o P Q
at_none None P Q e p = p
at_none (Some a) P Q e p = absurd (none-some a (sym e))

pub unnamed : (text : List ℕ) (r : Result Word NoCall) → MatchResult r (λ w. text ≡ name_of w) (λ e. (e ≡ Unreadable) × ((w : Word) → text ≢ name_of w)) → result_ok r ≡ None → (w : Word) → text ≢ name_of w
unnamed text (Ok v) h e = absurd (none-some v (sym e))
unnamed text (Err f) h e = h.1

-- one byte more
pub byte_more
    : (done left : List ℕ) → 2 ≤ length left → (x : ℕ) → pair_of (digit_of (get_or left 0 0)) (digit_of (get_or left 1 0)) ≡ Some x → (all : List ℕ) → all ≡ done ++ x ∷ []
    → bytes_after all (take (length left - 2) (drop 2 left)) ≡ bytes_after done left
byte_more done [] m x p all e = absurd (omega (arith, m))
byte_more done (a ∷ []) m x p all e = absurd (omega (arith, m))
byte_more done (a ∷ (b ∷ xs)) m x p all e =
    let front : bytes_after done (a ∷ (b ∷ xs)) ≡ bytes_after (done ++ x ∷ []) xs = rw (p, bytes_after) in
    ap (bytes_after all) (take_rest (a ∷ (b ∷ xs)) 2) ∙ ap (λ l. bytes_after l xs) e ∙ sym front
