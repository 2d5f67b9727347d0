-- What it means to read something that may not stand there.
use Rattle.std.specs.Prelude.{◌≡◌, ◌≢◌, ℕ, List, Some, None, Ok, Err, codes, Option, Result, MatchResult}
use Rattle.script.specs.declared.no_call.NoCall.{NoCall}
use Rattle.script.specs.declared.no_call.NoCall.TheVariants.{Unreadable, Memory}

-- what stands there is read, and `Unreadable` says that nothing does; memory may run out at either
abbrev pub Reads : {A B : Type 0} → (A → B) → Option B → Result A NoCall → Type 0
Reads seen there (Ok x) = there ≡ Some (seen x)
Reads seen there (Err Unreadable) = there ≡ None
Reads seen there (Err (Memory e)) = Unit {0}

-- the text is the name of what is read; where it names nothing, it is unreadable
abbrev pub Named : {A : Type 0} → (A → List ℕ) → List ℕ → Result A NoCall → Type 0
Named {A} name text result = MatchResult result (λ x. text ≡ name x) (λ e. (e ≡ Unreadable) × ((x : A) → text ≢ name x))

-- what is said of why nothing was read
abbrev pub no_call_text : NoCall → Option (List ℕ)
no_call_text Unreadable = Some (codes "no call")
no_call_text (Memory e) = Some (codes "out of memory")
