-- The word of a line, and what stands behind it.
use Rattle.std.proofs.Common.{◌≡◌, ℕ, suc, ◌+◌, ◌<◌, false, ltb, List, [], ◌∷◌, ◌++◌, length, take, drop, None, sym, refl, ap, ◌∙◌, inl, inr, one-add, arith}
use Rattle.std.proofs.lemmas.List.{length-append, take_at, drop_at, append_assoc}
use Rattle.std.specs.Cmp.Lexicographic.{same_text}
use Rattle.std.proofs.lemmas.Bool.{cond-true, cond-false, ne_eqb, lt-ltb, le-ltb, cases_Bool}
use Rattle.script.specs.declared.words.Word.{Word}
use Rattle.script.specs.declared.words.Word.TheVariants.{Judge, Demand, Share, Rehearse, Trace}
use Rattle.script.specs.Fields.{Unspaced}
use Rattle.script.specs.Names.{name_of}
use Rattle.script.specs.Calls.{word_length, names, word_of, with_word, called}

past_byte : (b : ℕ) (rest : List ℕ) → (b ≡ 32 → ⊥) → word_length (b ∷ rest) ≡ 1 + word_length rest
past_byte b rest h = rw (ne_eqb b 32 h)

pub length-unspaced : (text : List ℕ) → Unspaced text → word_length text ≡ length text
length-unspaced [] h = refl
length-unspaced (b ∷ bs) h = past_byte b bs (h 0 (omega arith)) ∙ ap (λ n. 1 + n) (length-unspaced bs (λ i l e. h (suc i) (omega arith) e)) ∙ one-add (length bs)

pub length-spaced : (w r : List ℕ) → Unspaced w → word_length (w ++ 32 ∷ r) ≡ length w
length-spaced [] r h = refl
length-spaced (b ∷ bs) r h = past_byte b (bs ++ 32 ∷ r) (h 0 (omega arith)) ∙ ap (λ n. 1 + n) (length-spaced bs r (λ i l e. h (suc i) (omega arith) e)) ∙ one-add (length bs)

-- a line without a space is no call
pub called_none : (line : List ℕ) → Unspaced line → called line ≡ None
called_none line h = cond-false (ltb (word_length line) (length line)) _ None (le-ltb (word_length line) (length line) (omega (arith, length-unspaced line h)))

-- a line is its word, a space and the rest
pub called_at : (line w r : List ℕ) → line ≡ w ++ (32 ∷ r) → Unspaced w → called line ≡ with_word (word_of w) r
called_at line w r e h =
    let n : word_length line ≡ length w = ap word_length e ∙ length-spaced w r h in
    let inside : word_length line < length line = omega (arith, n, ap length e, length-append w (32 ∷ r)) in
    let front : take (word_length line) line ≡ w = ap (λ (l : List ℕ). take (word_length line) l) e ∙ take_at w (32 ∷ r) (word_length line) (sym n) in
    let k : suc (word_length line) ≡ length (w ++ 32 ∷ []) = omega (arith, n, length-append w (32 ∷ [])) in
    let back : drop (suc (word_length line)) line ≡ r = ap (λ (l : List ℕ). drop (suc (word_length line)) l) (e ∙ regroup w) ∙ drop_at (w ++ 32 ∷ []) r (suc (word_length line)) (sym k) in
    cond-true (ltb (word_length line) (length line)) _ None (lt-ltb (word_length line) (length line) inside) ∙ ap (λ (l : List ℕ). with_word (word_of l) (drop (suc (word_length line)) line)) front ∙ ap (with_word (word_of w)) back
  where
    regroup : (l : List ℕ) → l ++ (32 ∷ r) ≡ (l ++ 32 ∷ []) ++ r
    regroup l = sym (append_assoc l (32 ∷ []) r)

not_named : (text : List ℕ) (w : Word) → ((v : Word) → text ≡ name_of v → ⊥) → names text w ≡ false
not_named text w h = elim (cases_Bool (names text w)) [ inl e ↦ absurd (h w (same_text text (name_of w) (sym e))) | inr e ↦ e ]

pub word_none : (text : List ℕ) → ((v : Word) → text ≡ name_of v → ⊥) → word_of text ≡ None
word_none text h =
    cond-false (names text Judge) _ _ (not_named text Judge h) ∙ cond-false (names text Demand) _ _ (not_named text Demand h) ∙ cond-false (names text Share) _ _ (not_named text Share h) ∙ cond-false (names text Rehearse) _ _ (not_named text Rehearse h) ∙ cond-false (names text Trace) _ _ (not_named text Trace h)

-- a line whose word is none is no call
pub called_unknown : (line w r : List ℕ) → line ≡ w ++ (32 ∷ r) → Unspaced w → ((v : Word) → w ≡ name_of v → ⊥) → called line ≡ None
called_unknown line w r e h no_name = called_at line w r e h ∙ ap (λ o. with_word o r) (word_none w no_name)
