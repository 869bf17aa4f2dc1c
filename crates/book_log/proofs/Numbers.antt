-- The calls of a caller are numbered without gaps, where each has the number of those before it.
use Rattle.std.proofs.Common.{◌≡◌, ◌∙◌, ℕ, suc, Bool, true, false, ◌==◌, cond, List, [], ◌∷◌, ◌++◌, length, refl, sym, ap, subst, append_assoc, append-nil, length-append, arith}
use Rattle.std.proofs.lemmas.Bool.{eqb-true}
use Rattle.std.proofs.lemmas.List.Elements.{filter-append}
use Rattle.book_log.specs.Callers.{AreCounted, AreNumberedFrom, calls}
use Rattle.book_log.specs.Items.{Item}

-- one item more
pub calls_more : (caller : ℕ) (log : List Item) (item : Item) →
    calls caller (log ++ item ∷ []) ≡ calls caller log ++ cond (item.caller == caller) (item ∷ []) []
calls_more caller log item = filter-append (λ item. item.caller == caller) log (item ∷ [])

-- each of these has the number of its caller's calls before it, those in front counted too
AreCountedBehind : List Item → List Item → Type 0
AreCountedBehind before log = (earlier : List Item) (item : Item) (later : List Item) → log ≡ earlier ++ item ∷ later →
    item.number ≡ length (calls item.caller (before ++ earlier))

counted_rest : (before : List Item) (item : Item) (log : List Item) → AreCountedBehind before (item ∷ log) → AreCountedBehind (before ++ item ∷ []) log
unfolding AreCountedBehind
counted_rest before item log counted earlier other later split =
    subst (λ (front : List Item). other.number ≡ length (calls other.caller front)) (sym (append_assoc before (item ∷ []) earlier))
    (counted (item ∷ earlier) other later (ap (λ rest. item ∷ rest) split))

numbered_behind : (caller : ℕ) (before log : List Item) → AreCountedBehind before log → AreNumberedFrom (length (calls caller before)) (calls caller log)
unfolding AreCountedBehind
numbered_behind caller before [] counted = tt
numbered_behind caller before (item ∷ log) counted =
    by (item.caller == caller) refl (numbered_behind caller (before ++ item ∷ []) log (counted_rest before item log counted))
  where
    first : item.number ≡ length (calls item.caller before)
    first = counted [] item log refl ∙ ap (λ front. length (calls item.caller front)) (append-nil before)

    by : (own : Bool) → (item.caller == caller) ≡ own → AreNumberedFrom (length (calls caller (before ++ item ∷ []))) (calls caller log) →
        AreNumberedFrom (length (calls caller before)) (cond own (item ∷ calls caller log) (calls caller log))
    by true own rest =
        let more : length (calls caller (before ++ item ∷ [])) ≡ suc (length (calls caller before)) =
        ap length (calls_more caller before item) ∙ ap (λ t. length (calls caller before ++ cond t (item ∷ []) [])) own
        ∙ (let sum = length-append (calls caller before) (item ∷ []) in omega (arith, sum)) in (
          first ∙ ap (λ who. length (calls who before)) (eqb-true item.caller caller own),
          subst (λ number. AreNumberedFrom number (calls caller log)) more rest,
        )
    by false other rest =
        let same : length (calls caller (before ++ item ∷ [])) ≡ length (calls caller before) =
        ap length (calls_more caller before item) ∙ ap (λ t. length (calls caller before ++ cond t (item ∷ []) [])) other
        ∙ ap length (append-nil (calls caller before)) in
        subst (λ number. AreNumberedFrom number (calls caller log)) same rest

pub numbered : (log : List Item) (caller : ℕ) → AreCounted log → AreNumberedFrom 0 (calls caller log)
unfolding AreCountedBehind
numbered log caller counted = numbered_behind caller [] log counted
