-- The front of a legal log is legal.
use Rattle.std.proofs.Common.{◌≡◌, ◌∙◌, ◌≤◌, List, [], ◌∷◌, ◌++◌, length, take, drop, sym, ap, subst, append_assoc, append-nil, length-append, arith}
use Rattle.std.proofs.Math.Seq.{drop-append_seam, take-append_seam}
use Rattle.std.proofs.lemmas.List.{take-append-drop, take-append-le}
use Rattle.std.specs.Prelude.{Option}
use Rattle.acl_names.specs.declared.auth.AuthId.{AuthId}
use Rattle.book_log.specs.Items.{Item}
use Rattle.book_log.specs.Logs.{IsLegalLog, IsLegalPast, IsReply, Origin}
use Rattle.book_log.specs.Pasts.{Past, log_of}

pub no_longer : {A : Type 0} (front : List A) (x : A) (rest : List A) → [] ≡ front ++ x ∷ rest → ⊥
no_longer front x rest is = let sum = length-append front (x ∷ rest) in let same = ap length is in omega (arith, sum, same)

-- what stands before the last item
shorter_front : {A : Type 0} (log front rest : List A) (last x : A) → log ++ last ∷ [] ≡ front ++ x ∷ rest → log ≡ front ++ drop (length front) log
shorter_front log front rest last x is =
    let one = length-append log (last ∷ []) in
    let other = length-append front (x ∷ rest) in
    let same = ap length is in
    let within : length front ≤ length log = omega (arith, one, other, same) in
    let taken : take (length front) log ≡ front =
    sym (take-append-le (length front) log (last ∷ []) within) ∙ ap (take (length front)) is ∙ take-append_seam front (x ∷ rest) in
    sym (take-append-drop (length front) log) ∙ ap (λ xs. xs ++ drop (length front) log) taken

pub legal_front : (origin : Origin) (past : Past) (front rest : List Item) → log_of past ≡ front ++ rest → IsLegalPast origin past → IsLegalLog origin front
unfolding IsLegalLog
legal_front origin past front [] is legal = (past, is ∙ append-nil front, legal)
legal_front origin [] front (x ∷ rest) is legal = absurd (no_longer front x rest is)
legal_front origin (noted ∷ past) front (x ∷ rest) is legal =
    legal_front origin past front (drop (length front) (log_of past)) (shorter_front (log_of past) front rest noted.item x is) legal.0

pub front_is_legal : (origin : Origin) (front rest : List Item) → IsLegalLog origin (front ++ rest) → IsLegalLog origin front
unfolding IsLegalLog
front_is_legal origin front rest legal = legal_front origin legal.0 front rest legal.1 legal.2

head_or : {A : Type 0} → A → List A → A
head_or x [] = x
head_or x (y ∷ ys) = y

-- lists with one item at the end
pub same_fronts : {A : Type 0} (xs ys : List A) (x y : A) → xs ++ x ∷ [] ≡ ys ++ y ∷ [] → (xs ≡ ys) × (x ≡ y)
unfolding head_or
same_fronts xs ys x y is =
    let one = length-append xs (x ∷ []) in
    let other = length-append ys (y ∷ []) in
    let same = ap length is in
    let long : length xs ≡ length ys = omega (arith, one, other, same) in (
      sym (take-append_seam xs (x ∷ [])) ∙ ap (take (length xs)) is ∙ ap (λ n. take n (ys ++ y ∷ [])) long ∙ take-append_seam ys (y ∷ []),
      ap (head_or x) (sym (drop-append_seam xs (x ∷ [])) ∙ ap (drop (length xs)) is ∙ ap (λ n. drop n (ys ++ y ∷ [])) long ∙ drop-append_seam ys (y ∷ [])),
    )

IsLastReplied : Origin → List Item → Item → Type 0
IsLastReplied origin before item =
    (past : Past) × (chosen : Option AuthId) × (log_of past ≡ before) × IsLegalPast origin past × IsReply origin past (record { item = item; chosen = chosen })

last_replied : (origin : Origin) (before : List Item) (item : Item) (past : Past) → log_of past ≡ before ++ item ∷ [] → IsLegalPast origin past →
    IsLastReplied origin before item
unfolding IsLastReplied
last_replied origin before item [] is legal = absurd (no_longer before item [] is)
last_replied origin before item (noted ∷ past) is legal =
    let same = same_fronts (log_of past) before noted.item item is in (
      past,
      noted.chosen,
      same.0,
      legal.0,
      subst (λ (it : Item). IsReply origin past (record { item = it; chosen = noted.chosen })) same.1 legal.1,
    )

pub each_is_replied : (origin : Origin) (before : List Item) (item : Item) (later : List Item) → IsLegalLog origin (before ++ item ∷ later) →
    (past : Past) × (chosen : Option AuthId) × (log_of past ≡ before) × IsLegalPast origin past × IsReply origin past (record { item = item; chosen = chosen })
unfolding IsLegalLog IsLastReplied
each_is_replied origin before item later legal =
    let front : IsLegalLog origin (before ++ item ∷ []) =
    front_is_legal origin (before ++ item ∷ []) later (subst (λ log. IsLegalLog origin log) (sym (append_assoc before (item ∷ []) later)) legal) in
    last_replied origin before item front.0 front.1 front.2
