-- Whole lists: what is read is spelled, what is spelled is read, and a refusal is where no spelling goes on.
use Rattle.std.proofs.Common.{◌≡◌, ◌++◌, ◌∷◌, [], ◌⊎◌, suc, ◌≤◌, ◌<◌, Bool, true, false, cond, List, length, nat_le, Ok, Err, Result, ap, refl, sym, ◌∙◌, subst, append-nil, append_assoc, length-append, inl, inr, arith, leb-true, leb-false}
use Rattle.std.proofs.lemmas.Bool.{cases_lt}
use Rattle.acl_grammar.specs.Grammar.{Grammar}
use Rattle.acl_grammar.specs.Grammar.Grammar.{choice}
use Rattle.acl_grammar.specs.Reader.{Reading, Sane, goes_on, read, ended, to_the_end, read_whole, furthest, read_either}
use Rattle.acl_grammar.specs.Spelling.{Viable, Refused, IsStuck, Disjoint, spells}
use Rattle.acl_grammar.specs.Exactness.{Took, Stopped}
use Rattle.acl_grammar.proofs.Exact.{Judged, Exact}
use Rattle.acl_grammar.proofs.Theorem.{exact}

-- a value that is spelled, or a right refusal
abbrev pub Right : {T A : Type 0} → (List T → A → Type 0) → List T → Result A (List T) → Type 0
Right P ts (Ok v) = P ts v
Right P ts (Err bad) = Refused P ts bad

pub viable_front : {T A : Type 0} (P : List T → A → Type 0) (front more : List T) → Viable P (front ++ more) → Viable P front
viable_front {T = T} P front more k =
    let Q : List T → Type 0 = λ ts. P ts k.value in
    record { more = more ++ k.more; value = k.value; spelled = subst Q (append_assoc front more k.more) k.spelled }

-- of the tokens behind a front the next one alone is to be seen
one_behind : {T : Type 0} (front : List T) (t : T) (more : List T) → (front ++ t ∷ []) ++ more ≡ front ++ t ∷ more
one_behind front t more = append_assoc front (t ∷ []) more

abbrev left_over : {T A : Type 0} → Reading T A → List T
left_over (Ok q) = q.1
left_over (Err bad) = bad

took_right : {T A : Type 0} (P : List T → A → Type 0) (goes : T → Bool) (r : List T → Reading T A) → Exact P goes r
    → (ts : List T) (v : A) (rest : List T) → Took P r ts v rest → Right P ts (to_the_end v rest)
took_right {T = T} P goes r e ts v [] k =
    let Q : List T → Type 0 = λ us. P us v in subst Q (sym (k.whole ∙ append-nil k.front)) k.spelled
took_right {T = T} P goes r e ts v (t ∷ rest) k =
    let Q : List T → Type 0 = λ us. P us v in
    record {
      front = k.front;
      whole = k.whole;
      viable = record { more = []; value = v; spelled = subst Q (sym (append-nil k.front)) k.spelled };
      stuck = λ m.
          let all : r (((k.front ++ t ∷ []) ++ m.more) ++ []) ≡ Ok (m.value, []) = e.all ((k.front ++ t ∷ []) ++ m.more) m.value [] m.spelled refl in
          let same : ((k.front ++ t ∷ []) ++ m.more) ++ [] ≡ k.front ++ t ∷ m.more = append-nil ((k.front ++ t ∷ []) ++ m.more) ∙ one_behind k.front t m.more in
          let other : r (k.front ++ t ∷ m.more) ≡ Ok (v, t ∷ m.more) = k.again (t ∷ m.more) refl in
          let both : Ok (v, t ∷ m.more) ≡ Ok (m.value, []) = sym other ∙ ap r (sym same) ∙ all in
          let gap : t ∷ m.more ≡ [] = ap left_over both in
          cc;
    }

stopped_right : {T A : Type 0} (P : List T → A → Type 0) (goes : T → Bool) (r : List T → Reading T A) → Exact P goes r
    → (ts bad : List T) → Stopped P r ts bad → Refused P ts bad
stopped_right {A = A} P goes r e ts [] k = record {
  front = k.front;
  whole = k.whole;
  viable = k.viable;
  stuck = λ v h.
      let both : Err [] ≡ Ok (v, []) = sym (k.again [] refl) ∙ e.all k.front v [] h refl in
      cc;
}
stopped_right P goes r e ts (t ∷ bad) k = record {
  front = k.front;
  whole = k.whole;
  viable = k.viable;
  stuck = λ m.
      let all : r (((k.front ++ t ∷ []) ++ m.more) ++ []) ≡ Ok (m.value, []) = e.all ((k.front ++ t ∷ []) ++ m.more) m.value [] m.spelled refl in
      let same : ((k.front ++ t ∷ []) ++ m.more) ++ [] ≡ k.front ++ t ∷ m.more = append-nil ((k.front ++ t ∷ []) ++ m.more) ∙ one_behind k.front t m.more in
      let other : r (k.front ++ t ∷ m.more) ≡ Err (t ∷ m.more) = k.again (t ∷ m.more) refl in
      let both : Err (t ∷ m.more) ≡ Ok (m.value, []) = sym other ∙ ap r (sym same) ∙ all in
      cc;
}

judged_right : {T A : Type 0} (P : List T → A → Type 0) (goes : T → Bool) (r : List T → Reading T A) → Exact P goes r
    → (ts : List T) (x : Reading T A) → Judged P r ts x → Right P ts (ended x)
judged_right P goes r e ts (Ok q) k = took_right P goes r e ts q.0 q.1 k
judged_right P goes r e ts (Err bad) k = stopped_right P goes r e ts bad k

pub whole_right : {T A : Type 0} (g : Grammar T A) → Sane g → (ts : List T) → Right (spells g) ts (read_whole g ts)
whole_right g sane ts = let e = exact g sane in judged_right (spells g) (goes_on g) (read g) e ts (read g ts) (e.judged ts)

pub whole_only : {T A : Type 0} (g : Grammar T A) → Sane g → (ts : List T) (v : A) → spells g ts v → read_whole g ts ≡ Ok v
whole_only g sane ts v h =
    ap (λ us. ended (read g us)) (sym (append-nil ts)) ∙ ap ended ((exact g sane).all ts v [] h refl)

-- where two ways to cut a list meet
pub cut_twice : {T : Type 0} (us bad ws other : List T) → us ++ bad ≡ ws ++ other → length bad ≤ length other
    → (more : List T) × (us ≡ ws ++ more) × (other ≡ more ++ bad)
cut_twice us bad [] other eq shorter = (us, refl, sym eq)
cut_twice [] bad (w ∷ ws) other eq shorter =
    let longer : length bad ≡ suc (length (ws ++ other)) = ap length eq in absurd (omega (arith, length-append ws other))
cut_twice (u ∷ us) bad (w ∷ ws) other eq shorter =
    let same : u ≡ w = cc in let tail : us ++ bad ≡ ws ++ other = cc in
    let k = cut_twice us bad ws other tail shorter in
    (k.0, ap (λ x. x ∷ us) same ∙ ap (λ x. w ∷ x) k.1, k.2)

pub spelled_viable : {T A : Type 0} (P : List T → A → Type 0) (ts : List T) (v : A) → P ts v → Viable P ts
spelled_viable {T = T} P ts v h =
    let Q : List T → Type 0 = λ us. P us v in
    record { more = []; value = v; spelled = subst Q (sym (append-nil ts)) h }

-- no spelling has the first token of what is refused at its place
stuck_head : {T A : Type 0} (P : List T → A → Type 0) (front bad : List T) → IsStuck P front bad
    → (t : T) (rest more : List T) → bad ≡ t ∷ rest → Viable P (front ++ t ∷ more) → ⊥
stuck_head P front bad stuck t rest more eq v =
    let here : IsStuck P front (t ∷ rest) = subst (IsStuck P front) eq stuck in
    here (viable_front P (front ++ t ∷ []) more (subst (Viable P) (sym (one_behind front t more)) v))

stuck_beyond : {T A : Type 0} (P : List T → A → Type 0) (front bad : List T) → IsStuck P front bad
    → (more : List T) (t : T) (rest : List T) → bad ≡ more ++ t ∷ rest → Viable P (front ++ (more ++ t ∷ [])) → ⊥
stuck_beyond P front bad stuck [] t rest eq v = stuck_head P front bad stuck t rest [] eq v
stuck_beyond P front bad stuck (m ∷ more) t rest eq v = stuck_head P front bad stuck m (more ++ t ∷ rest) (more ++ t ∷ []) eq v

-- nothing that is viable goes past the place of a refusal
not_beyond : {T A : Type 0} (P : List T → A → Type 0) (ts bad : List T) → Refused P ts bad
    → (front : List T) (t : T) (rest : List T) → ts ≡ front ++ t ∷ rest → length (t ∷ rest) ≤ length bad
    → Viable P (front ++ t ∷ []) → ⊥
not_beyond P ts bad k front t rest whole shorter v =
    let cut = cut_twice front (t ∷ rest) k.front bad (sym whole ∙ k.whole) shorter in
    stuck_beyond P k.front bad k.stuck cut.0 t rest cut.2
    (subst (Viable P) (ap (λ us. us ++ t ∷ []) cut.1 ∙ append_assoc k.front cut.0 (t ∷ [])) v)

stuck_spells_not : {T A : Type 0} (P : List T → A → Type 0) (ts front bad : List T) → ts ≡ front ++ bad → IsStuck P front bad
    → (v : A) → P ts v → ⊥
stuck_spells_not {T = T} P ts front [] whole stuck v h =
    let Q : List T → Type 0 = λ us. P us v in stuck v (subst Q (whole ∙ append-nil front) h)
stuck_spells_not P ts front (t ∷ bad) whole stuck v h =
    stuck_head P front (t ∷ bad) stuck t bad bad refl (subst (Viable P) whole (spelled_viable P ts v h))

pub not_spelled : {T A : Type 0} (P : List T → A → Type 0) (ts bad : List T) → Refused P ts bad → (v : A) → P ts v → ⊥
not_spelled P ts bad k v h = stuck_spells_not P ts k.front bad k.whole k.stuck v h

-- a list is refused at one place
no_gap : {T A : Type 0} (P : List T → A → Type 0) (ts bad other : List T) → Refused P ts bad → Refused P ts other
    → (more : List T) (front : List T) → IsStuck P front other → Viable P (front ++ more) → other ≡ more ++ bad → bad ≡ other
no_gap P ts bad other k l [] front stuck v eq = sym eq
no_gap P ts bad other k l (m ∷ more) front stuck v eq = absurd (stuck_head P front other stuck m (more ++ bad) more eq v)

refused_no_later : {T A : Type 0} (P : List T → A → Type 0) (ts bad other : List T) → Refused P ts bad → Refused P ts other
    → length bad ≤ length other → bad ≡ other
refused_no_later P ts bad other k l shorter =
    let cut = cut_twice k.front bad l.front other (sym k.whole ∙ l.whole) shorter in
    no_gap P ts bad other k l cut.0 l.front l.stuck (subst (Viable P) cut.1 k.viable) cut.2

pub refused_once : {T A : Type 0} (P : List T → A → Type 0) (ts bad other : List T) → Refused P ts bad → Refused P ts other → bad ≡ other
refused_once P ts bad other k l = elim (cases_lt (length bad) (length other)) [
  | inl shorter ↦ refused_no_later P ts bad other k l (omega arith)
  | inr shorter ↦ sym (refused_no_later P ts other bad l k shorter)
]

-- of two refusals the further one is a refusal by what either spells
either_stuck : {T A : Type 0} (P Q R : List T → A → Type 0) → ((ts : List T) (v : A) → R ts v → P ts v ⊎ Q ts v)
    → (ts front bad other : List T) → ts ≡ front ++ bad → IsStuck P front bad → Refused Q ts other → length bad ≤ length other
    → IsStuck R front bad
either_stuck {T = T} P Q R cases ts front [] other whole stuck l shorter = λ v h. elim (cases front v h) [
  | inl a ↦ stuck v a
  | inr b ↦ let S : List T → Type 0 = λ us. Q us v in not_spelled Q ts other l v (subst S (sym (whole ∙ append-nil front)) b)
]
either_stuck P Q R cases ts front (t ∷ bad) other whole stuck l shorter = λ m. elim (cases ((front ++ t ∷ []) ++ m.more) m.value m.spelled) [
  | inl a ↦ stuck (record { more = m.more; value = m.value; spelled = a })
  | inr b ↦ not_beyond Q ts other l front t bad whole shorter (record { more = m.more; value = m.value; spelled = b })
]

either_refused : {T A : Type 0} (P Q R : List T → A → Type 0) → ((ts : List T) (v : A) → R ts v → P ts v ⊎ Q ts v)
    → ((ts : List T) (v : A) → P ts v → R ts v)
    → (ts bad other : List T) → Refused P ts bad → Refused Q ts other → length bad ≤ length other → Refused R ts bad
either_refused P Q R cases within ts bad other k l shorter = record {
  front = k.front;
  whole = k.whole;
  viable = record { more = k.viable.more; value = k.viable.value; spelled = within (k.front ++ k.viable.more) k.viable.value k.viable.spelled };
  stuck = either_stuck P Q R cases ts k.front bad other k.whole k.stuck l shorter;
}

further_refused : {T A : Type 0} (P Q : List T → A → Type 0) (ts bad other : List T) (b : Bool) → nat_le (length bad) (length other) ≡ b
    → Refused P ts bad → Refused Q ts other → Refused (λ us v. P us v ⊎ Q us v) ts (cond b bad other)
further_refused P Q ts bad other true h k l =
    either_refused P Q (λ us v. P us v ⊎ Q us v) (λ us v s. s) (λ us v. inl) ts bad other k l (leb-true _ _ h)
further_refused P Q ts bad other false h k l =
    either_refused Q P (λ us v. P us v ⊎ Q us v) (λ us v s. elim s [ inl a ↦ inr a | inr a ↦ inl a ]) (λ us v. inr) ts other bad l k
    (let less : length other < length bad = leb-false _ _ h in omega arith)

pub either_right : {T A : Type 0} (P Q : List T → A → Type 0) (ts : List T) (x y : Result A (List T))
    → Right P ts x → Right Q ts y → Right (λ us v. P us v ⊎ Q us v) ts (furthest x y)
either_right P Q ts (Ok v) y k l = inl k
either_right P Q ts (Err bad) (Ok w) k l = inr l
either_right P Q ts (Err bad) (Err other) k l = further_refused P Q ts bad other (nat_le (length bad) (length other)) refl k l

-- what is spelled by either is read, where no list is spelled by both
furthest_second : {A : Type 0} {T : Type 0} (x : Result A (List T)) (w : A) → ((v : A) → x ≡ Ok v → ⊥) → furthest x (Ok w) ≡ Ok w
furthest_second (Ok v) w none = absurd (none v refl)
furthest_second (Err bad) w none = refl

pub either_only : {T A : Type 0} (g h : Grammar T A) → Sane g → Sane h → Disjoint g h
    → (ts : List T) (v : A) → spells (choice g h) ts v → read_either g h ts ≡ Ok v
either_only g h left right disjoint ts v (inl a) = ap (λ x. furthest x (read_whole h ts)) (whole_only g left ts v a)
either_only g h left right disjoint ts v (inr b) =
    ap (furthest (read_whole g ts)) (whole_only h right ts v b)
    ∙ furthest_second (read_whole g ts) v (λ w e. disjoint ts w v (subst (Right (spells g) ts) e (whole_right g left ts)) b)
