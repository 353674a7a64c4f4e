-- Bytes written in parts, from their end on.
use Rattle.std.proofs.Common.{◌≡◌, ℕ, ◌+◌, List, ◌++◌, take, drop, sym, ap, ◌∙◌, take-append-drop}
use Rattle.std.proofs.lemmas.List.{drop-drop}

-- n bytes more, before those from `left` on
pub part_before : (bs : List ℕ) (from n left : ℕ) → left ≡ from + n → drop from bs ≡ take n (drop from bs) ++ drop left bs
part_before bs from n left e =
    sym (take-append-drop n (drop from bs)) ∙ ap (λ (us : List ℕ). take n (drop from bs) ++ us) (drop-drop n from bs ∙ ap (λ (k : ℕ). drop k bs) (sym e))
