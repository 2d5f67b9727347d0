-- What `make` asks for: a number, a space and the name of a setup.
use Rattle.std.proofs.Common.{◌≡◌, ◌≢◌, ℕ, List, ◌∷◌, ◌++◌, length, drop, Result, Err, None, refl, subst, sym, ap, ◌∙◌}
use Rattle.std.proofs.lemmas.Option.{none-some}
use Rattle.script.specs.Fields.{Unspaced}
use Rattle.script.specs.Calls.{word_length}
use Rattle.script.proofs.Wording.{length-spaced}
use Rattle.console.specs.declared.making.Setup.{Setup}
use Rattle.console.specs.Making.{setup_name, one_number, Asks, MakeRead, ReadsMake}
use Rattle.script.specs.NoCalls.{Reads}
use Rattle.script.specs.declared.no_call.NoCall.{NoCall}
use Rattle.script.specs.declared.no_call.NoCall.TheVariants.{Unreadable, Memory}
use Rattle.console.proofs.Reading.{no_space_at, same_front, same_back}

pub unspaced_asks : (rest : List ℕ) → Unspaced rest → (processors : ℕ) (setup : Setup) → Asks rest processors setup → ⊥
unspaced_asks rest h processors setup a = no_space_at rest a.digits _ h a.whole (length-spaced a.digits _ a.unspaced)

-- a text is parted at its first space in one way
module _ (rest digits tail : List ℕ) (e : rest ≡ digits ++ (32 ∷ tail)) (u : Unspaced digits) (processors : ℕ) (setup : Setup) (a : Asks rest processors setup) where
  as_long : length a.digits ≡ length digits
  as_long = sym (length-spaced a.digits _ a.unspaced) ∙ sym (ap word_length a.whole) ∙ ap word_length e ∙ length-spaced digits tail u

  same_digits : digits ≡ a.digits
  same_digits = same_front digits a.digits (32 ∷ tail) (32 ∷ setup_name setup.judge setup.policy) as_long (sym e ∙ a.whole)

  same_tail : tail ≡ setup_name setup.judge setup.policy
  same_tail = ap (λ l. drop 1 l) (same_back digits a.digits (32 ∷ tail) (32 ∷ setup_name setup.judge setup.policy) as_long (sym e ∙ a.whole))

pub other_asks
    : (rest digits tail : List ℕ) → rest ≡ digits ++ (32 ∷ tail) → Unspaced digits → ((s : Setup) → tail ≢ setup_name s.judge s.policy) → (processors : ℕ) (setup : Setup) → Asks rest processors setup → ⊥
other_asks rest digits tail e u other processors setup a = other setup (same_tail rest digits tail e u processors setup a)

pub numberless_asks : (rest digits tail : List ℕ) → rest ≡ digits ++ (32 ∷ tail) → Unspaced digits → one_number digits ≡ None → (processors : ℕ) (setup : Setup) → Asks rest processors setup → ⊥
numberless_asks rest digits tail e u none processors setup a =
    none-some processors (sym none ∙ ap one_number (same_digits rest digits tail e u processors setup a) ∙ a.number)

-- where nothing is asked for
pub reads_none : (rest : List ℕ) (r : Result (ℕ × Setup) NoCall) (e : NoCall) → r ≡ Err e → (e ≡ Unreadable → MakeRead rest None) → ReadsMake rest r
reads_none rest r Unreadable h f = subst (ReadsMake rest) (sym h) (f refl)
reads_none rest r (Memory m) h f = subst (ReadsMake rest) (sym h) tt

pub no_number : (digits : List ℕ) (e : NoCall) → Reads (λ (n : ℕ). n) (one_number digits) (Err e) → e ≡ Unreadable → one_number digits ≡ None
no_number digits e h is = subst (λ x. Reads (λ (n : ℕ). n) (one_number digits) (Err x)) is h
