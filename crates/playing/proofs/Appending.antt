-- What is written, one part behind the other.
use Rattle.std.proofs.Common.{◌≡◌, ℕ, List, ◌++◌, length, take, drop, Option, sym, refl, ap, ◌∙◌, subst, append_assoc}
use Rattle.std.proofs.lemmas.List.{take_at, take-append-drop}
use Rattle.std.proofs.KnownBytes.{Appends-trans}
use Rattle.std.specs.Io.KnownBytes.{Appends}
use Rattle.playing.specs.Streams.{PutInPart}

-- a text was begun, and a front part of its next piece was written
pub front_written : (a b c : Option (List ℕ)) (done piece rest : List ℕ) → Appends a b done → PutInPart b c piece → PutInPart a c ((done ++ piece) ++ rest)
front_written a b c done piece rest p f =
    let k = f.count in
    let here = done ++ take k piece in
    let whole : (done ++ piece) ++ rest ≡ here ++ (drop k piece ++ rest) =
    ap (λ l. (done ++ l) ++ rest) (sym (take-append-drop k piece)) ∙ ap (λ l. l ++ rest) (sym (append_assoc done (take k piece) (drop k piece))) ∙ append_assoc here (drop k piece) rest in
    record {
      count = length here;
      appended = subst (Appends a c) (sym (ap (take (length here)) whole ∙ take_at here (drop k piece ++ rest) (length here) refl)) (Appends-trans a b c done (take k piece) p f.appended);
    }
