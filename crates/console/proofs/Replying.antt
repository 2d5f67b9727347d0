-- A line and its answer.
use Rattle.std.proofs.Common.{◌≡◌, ℕ, List, ◌∷◌, ◌++◌, Ok, Err, vec_items, codes, Result, Vec, sym, refl, subst}
use Rattle.std.specs.declared.alloc.Global.{Global}
use Rattle.std.specs.Str.{IsUtf8}
use Rattle.script.specs.Lines.{line_with}
use Rattle.console.specs.Console.{ConsoleSeen}
use Rattle.console.specs.declared.words.Word.{Word}
use Rattle.console.specs.declared.words.Word.TheVariants as words
use Rattle.console.specs.declared.lost.Lost.{Lost}
use Rattle.console.specs.declared.lost.Lost.TheVariants.{Call, Answer, Play}
use Rattle.console.specs.declared.unanswered.Unanswered.{Unanswered}
use Rattle.console.specs.declared.unanswered.Unanswered.TheVariants as why
use Rattle.console.specs.Lost.{Leaves, Answers, Written}
use Rattle.console.specs.Unanswered.{Says, SaysInstead, instead}
use Rattle.console.specs.Names.{name_of}
use Rattle.console.specs.Replies.{Told, ToldBehind, Replied, call, no_text}
use Rattle.console.proofs.Losing.{said_or_lost}

-- what the player is told to do, it does beside any console
pub played
    : (word : Word) (rest : List ℕ) (console : ConsoleSeen) (said : Result (Vec ℕ Global) Unanswered)
    → word ≡ words.Play → ((d : ConsoleSeen) → Says vec_items (Told words.Play rest d) d d said) → Says vec_items (Told word rest console) console console said
played word rest console said e h = subst (λ w. Says vec_items (Told w rest console) console console said) (sym e) (h console)

-- what is told is written behind the line, or is lost
pub told_answer
    : (line rest : List ℕ) (word : Word) (before after : ConsoleSeen) (text : List ℕ) (said : Result (Vec ℕ Global) Lost)
    → Told word rest before text after → Written vec_items (line ++ (codes " -> " ++ text)) said → Answers vec_items (ToldBehind line word rest before) before after said
told_answer line rest word before after text said told e =
    said_or_lost vec_items (ToldBehind line word rest before) before after _ (record { text = text; told = told; whole = refl }) said e

instead_fits : {S : Type 0} (fits : List ℕ → S → Type 0) (before after : S) (unanswered : Unanswered) (text : List ℕ) → SaysInstead fits before after unanswered → instead unanswered ≡ Ok text → fits text after
instead_fits fits before after why.NoCall text h e = subst (λ t. fits t after) (cc) h
instead_fits fits before after why.NoRack text h e = subst (λ t. fits t after) (cc) h
instead_fits fits before after (why.Lost l) text h e = absurd (cc)

pub told_instead
    : (line rest : List ℕ) (word : Word) (before after : ConsoleSeen) (unanswered : Unanswered) (text : List ℕ) (said : Result (Vec ℕ Global) Lost)
    → SaysInstead (Told word rest before) before after unanswered → instead unanswered ≡ Ok text → Written vec_items (line ++ (codes " -> " ++ text)) said
    → Answers vec_items (ToldBehind line word rest before) before after said
told_instead line rest word before after unanswered text said h is e =
    told_answer line rest word before after text said (instead_fits (Told word rest before) before after unanswered text h is) e

-- what is lost of the call is lost of the line
lost_behind
    : (line rest : List ℕ) (word : Word) (before after : ConsoleSeen) (lost : Lost) → Leaves (Told word rest before) before after lost → Leaves (ToldBehind line word rest before) before after lost
lost_behind line rest word before after (Call m) h = h
lost_behind line rest word before after (Play m) h = h
lost_behind line rest word before after (Answer m) h = (line ++ (codes " -> " ++ h.0), record { text = h.0; told = h.1; whole = refl })

instead_lost : {S : Type 0} (fits : List ℕ → S → Type 0) (before after : S) (unanswered : Unanswered) (lost : Lost) → SaysInstead fits before after unanswered → instead unanswered ≡ Err lost → Leaves fits before after lost
instead_lost fits before after why.NoCall lost h e = absurd (cc)
instead_lost fits before after why.NoRack lost h e = absurd (cc)
instead_lost fits before after (why.Lost l) lost h e = subst (Leaves fits before after) (cc) h

pub told_lost
    : (line rest : List ℕ) (word : Word) (before after : ConsoleSeen) (unanswered : Unanswered) (lost : Lost) (said : Result (Vec ℕ Global) Lost)
    → SaysInstead (Told word rest before) before after unanswered → instead unanswered ≡ Err lost → said ≡ Err lost
    → Answers vec_items (ToldBehind line word rest before) before after said
told_lost line rest word before after unanswered lost said h is e =
    subst (Answers vec_items (ToldBehind line word rest before) before after) (sym e) (lost_behind line rest word before after lost (instead_lost (Told word rest before) before after unanswered lost h is))

-- a line of the console
pub replied_told
    : (line rest : List ℕ) (word : Word) (before after : ConsoleSeen) (said : Result (Vec ℕ Global) Lost)
    → IsUtf8 line → line ≡ name_of word ++ (32 ∷ rest) → Answers vec_items (ToldBehind line word rest before) before after said → Answers vec_items (Replied before line) before after said
replied_told line rest word before after (Ok v) u b h = (call word rest, record { is_text = u; begins = b; told = h })
replied_told line rest word before after (Err (Call m)) u b h = h
replied_told line rest word before after (Err (Play m)) u b h = h
replied_told line rest word before after (Err (Answer m)) u b h = (h.0, (call word rest, record { is_text = u; begins = b; told = h.1 }))

-- a line that is no text
pub replied_no_text
    : (line : List ℕ) (before : ConsoleSeen) (said : Result (Vec ℕ Global) Lost)
    → (¬ (IsUtf8 line)) → Written vec_items (line_with line (codes "?")) said → Answers vec_items (Replied before line) before before said
replied_no_text line before said u e =
    said_or_lost vec_items (Replied before line) before before _ (no_text, record { no_text = u; whole = refl; stays = refl }) said e
