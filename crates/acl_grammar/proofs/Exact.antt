-- What it is for one reader to be exact for what is spelled, and that each way to compose readers keeps it.
use Rattle.std.proofs.Common.{◌≡◌, ◌++◌, ◌∷◌, [], ℕ, ◌≤◌, ◌<◌, zero, suc, Bool, IsTrue, true, false, cond, List, length, Ok, Err, ap, refl, sym, ◌∙◌, subst, append_assoc, inl, inr, ◌⊎◌, arith, length-append, le_refl}
use Rattle.std.proofs.lemmas.Bool.{false_from_ne_true}
use Rattle.acl_grammar.specs.Reader.{Reading, Apart, Sample, next, begins, mapped, behind, in_front, read_token, onward, read_after, repeat, read_many}
use Rattle.acl_grammar.specs.Exactness.{Took, Stopped}
use Rattle.acl_grammar.specs.Spelling.{repeated}
use Rattle.acl_grammar.proofs.Lists.{begins_alike, alike_append, begins_within, begins_behind}

abbrev pub Judged : {T A : Type 0} → (List T → A → Type 0) → (List T → Reading T A) → List T → Reading T A → Type 0
Judged P r ts (Ok q) = Took P r ts q.0 q.1
Judged P r ts (Err bad) = Stopped P r ts bad

-- a spelling, to show that some list goes on
abbrev pub SomeSpelling : {T A : Type 0} → (List T → A → Type 0) → Type 0
SomeSpelling {T = T} {A = A} P = (ts : List T) × (v : A) × P ts v

pub record Exact {T A : Type 0} (P : List T → A → Type 0) (goes : T → Bool) (r : List T → Reading T A) : Type 0 where
  pub judged : (ts : List T) → Judged P r ts (r ts)
  pub all : (front : List T) (v : A) (rest : List T) → P front v → begins goes rest ≡ false → r (front ++ rest) ≡ Ok (v, rest)

-- spellings as relations, one for each way to compose grammars
abbrev pub IsToken : {T A : Type 0} → (T → Bool) → (T → A) → List T → A → Type 0
IsToken {T = T} is value ts v = (t : T) × IsTrue (is t) × (ts ≡ t ∷ []) × (v ≡ value t)

abbrev pub After : {T A : Type 0} → (T → Bool) → (List T → A → Type 0) → List T → A → Type 0
After {T = T} is P ts v = (t : T) × (us : List T) × IsTrue (is t) × (ts ≡ t ∷ us) × P us v

abbrev pub Both : {T A B : Type 0} → (List T → A → Type 0) → (List T → B → Type 0) → List T → A × B → Type 0
Both {T = T} P Q ts v = (us ws : List T) × (ts ≡ us ++ ws) × P us v.0 × Q ws v.1

abbrev pub To : {T A B : Type 0} → (A → B) → (List T → A → Type 0) → List T → B → Type 0
To {A = A} f P ts v = (a : A) × P ts a × (v ≡ f a)

-- one token of a class

read_token_fails : {T A : Type 0} (is : T → Bool) (value : T → A) (ts : List T) → begins is ts ≡ false → read_token is value ts ≡ Err ts
read_token_fails is value [] h = refl
read_token_fails is value (t ∷ ts) h = rw h

token_stops : {T A : Type 0} (is : T → Bool) (value : T → A) → Sample is → (ts : List T) → begins is ts ≡ false
    → Stopped (IsToken is value) (read_token is value) ts ts
token_stops is value sample ts h = record {
  front = [];
  whole = refl;
  viable = record { more = sample.0 ∷ []; value = value sample.0; spelled = (sample.0, sample.1, refl, refl) };
  again = λ us a. read_token_fails is value us (begins_alike is us ts a ∙ h);
}

token_took : {T A : Type 0} (is : T → Bool) (value : T → A) (t : T) (ts : List T) → is t ≡ true
    → Took (IsToken is value) (read_token is value) (t ∷ ts) (value t) ts
token_took is value t ts h = record {
  front = t ∷ [];
  whole = refl;
  spelled = (t, h, refl, refl);
  again = λ us a. rw h;
}

token_judged_at : {T A : Type 0} (is : T → Bool) (value : T → A) → Sample is → (t : T) (ts : List T) (b : Bool) → is t ≡ b
    → Judged (IsToken is value) (read_token is value) (t ∷ ts) (cond b (Ok (value t, ts)) (Err (t ∷ ts)))
token_judged_at is value sample t ts true h = token_took is value t ts h
token_judged_at is value sample t ts false h = token_stops is value sample (t ∷ ts) h

token_judged : {T A : Type 0} (is : T → Bool) (value : T → A) → Sample is → (ts : List T)
    → Judged (IsToken is value) (read_token is value) ts (read_token is value ts)
token_judged is value sample [] = token_stops is value sample [] refl
token_judged is value sample (t ∷ ts) = token_judged_at is value sample t ts (is t) refl

pub exact_token : {T A : Type 0} (is : T → Bool) (value : T → A) → Sample is
    → Exact (IsToken is value) (λ _. false) (read_token is value)
exact_token is value sample = record {
  judged = token_judged is value sample;
  all = λ front v rest (t, h, eq, veq) clear. rw (eq, veq, h) refl;
}

-- a token of a class before more

read_after_fails : {T A : Type 0} (is : T → Bool) (r : List T → Reading T A) (ts : List T) → begins is ts ≡ false → read_after is r ts ≡ Err ts
read_after_fails is r [] h = refl
read_after_fails is r (t ∷ ts) h = rw h

after_stops : {T A : Type 0} (is : T → Bool) (P : List T → A → Type 0) (r : List T → Reading T A) → Sample is
    → SomeSpelling P → (ts : List T) → begins is ts ≡ false → Stopped (After is P) (read_after is r) ts ts
after_stops is P r sample complete ts h = record {
  front = [];
  whole = refl;
  viable = record { more = sample.0 ∷ complete.0; value = complete.1; spelled = (sample.0, complete.0, sample.1, refl, complete.2) };
  again = λ us a. read_after_fails is r us (begins_alike is us ts a ∙ h);
}

after_goes_on : {T A : Type 0} (is : T → Bool) (P : List T → A → Type 0) (r : List T → Reading T A) (t : T) (ts : List T)
    → is t ≡ true → (x : Reading T A) → Judged P r ts x → Judged (After is P) (read_after is r) (t ∷ ts) x
after_goes_on is P r t ts h (Ok q) k = record {
  front = t ∷ k.front;
  whole = ap (λ us. t ∷ us) k.whole;
  spelled = (t, k.front, h, refl, k.spelled);
  again = λ us a. rw h (k.again us a);
}
after_goes_on is P r t ts h (Err bad) k = record {
  front = t ∷ k.front;
  whole = ap (λ us. t ∷ us) k.whole;
  viable = record { more = k.viable.more; value = k.viable.value; spelled = (t, k.front ++ k.viable.more, h, refl, k.viable.spelled) };
  again = λ us a. rw h (k.again us a);
}

after_judged_at : {T A : Type 0} (is : T → Bool) (P : List T → A → Type 0) (goes : T → Bool) (r : List T → Reading T A)
    → Sample is → SomeSpelling P → Exact P goes r → (t : T) (ts : List T) (b : Bool) → is t ≡ b
    → Judged (After is P) (read_after is r) (t ∷ ts) (onward (cond b (Ok ts) (Err (t ∷ ts))) r)
after_judged_at is P goes r sample complete e t ts true h = after_goes_on is P r t ts h (r ts) (e.judged ts)
after_judged_at is P goes r sample complete e t ts false h = after_stops is P r sample complete (t ∷ ts) h

after_judged : {T A : Type 0} (is : T → Bool) (P : List T → A → Type 0) (goes : T → Bool) (r : List T → Reading T A)
    → Sample is → SomeSpelling P → Exact P goes r → (ts : List T) → Judged (After is P) (read_after is r) ts (read_after is r ts)
after_judged is P goes r sample complete e [] = after_stops is P r sample complete [] refl
after_judged is P goes r sample complete e (t ∷ ts) = after_judged_at is P goes r sample complete e t ts (is t) refl

pub exact_after : {T A : Type 0} (is : T → Bool) (P : List T → A → Type 0) (goes : T → Bool) (r : List T → Reading T A)
    → Sample is → SomeSpelling P → Exact P goes r → Exact (After is P) goes (read_after is r)
exact_after is P goes r sample complete e = record {
  judged = after_judged is P goes r sample complete e;
  all = λ front v rest (t, us, h, eq, spelled) clear. rw (eq, h) (e.all us v rest spelled clear);
}

-- nothing

pub exact_empty : {T A : Type 0} (a : A) → Exact {T = T} (λ ts v. (ts ≡ []) × (v ≡ a)) (λ _. false) (λ ts. Ok (a, ts))
exact_empty a = record {
  judged = λ ts. record { front = []; whole = refl; spelled = (refl, refl); again = λ us e. refl };
  all = λ front v rest (eq, veq) clear. rw (eq, veq) refl;
}

-- one behind the other

both_second : {T A B : Type 0} (P : List T → A → Type 0) (Q : List T → B → Type 0) (r : List T → Reading T A) (s : List T → Reading T B)
    (ts : List T) (v : A) (mid : List T) → Took P r ts v mid → (y : Reading T B) → Judged Q s mid y
    → Judged (Both P Q) (λ ws. behind (r ws) s) ts (mapped (λ w. (v, w)) y)
both_second P Q r s ts v mid k (Ok q) m = record {
  front = k.front ++ m.front;
  whole = k.whole ∙ ap (λ ws. k.front ++ ws) m.whole ∙ sym (append_assoc k.front m.front q.1);
  spelled = (k.front, m.front, refl, k.spelled, m.spelled);
  again = λ us a.
      ap (λ ws. behind (r ws) s) (append_assoc k.front m.front us)
      ∙ ap (λ x. behind x s) (k.again (m.front ++ us) (alike_append m.front us q.1 a ∙ ap next (sym m.whole)))
      ∙ ap (mapped (λ w. (v, w))) (m.again us a);
}
both_second P Q r s ts v mid k (Err bad) m = record {
  front = k.front ++ m.front;
  whole = k.whole ∙ ap (λ ws. k.front ++ ws) m.whole ∙ sym (append_assoc k.front m.front bad);
  viable = record {
    more = m.viable.more;
    value = (v, m.viable.value);
    spelled = (k.front, m.front ++ m.viable.more, append_assoc k.front m.front m.viable.more, k.spelled, m.viable.spelled);
  };
  again = λ us a.
      ap (λ ws. behind (r ws) s) (append_assoc k.front m.front us)
      ∙ ap (λ x. behind x s) (k.again (m.front ++ us) (alike_append m.front us bad a ∙ ap next (sym m.whole)))
      ∙ ap (mapped (λ w. (v, w))) (m.again us a);
}

both_judged : {T A B : Type 0} (P : List T → A → Type 0) (Q : List T → B → Type 0) (r : List T → Reading T A) (s : List T → Reading T B)
    → SomeSpelling Q → (ts : List T) → ((v : A) (mid : List T) → Took P r ts v mid → Judged Q s mid (s mid))
    → (x : Reading T A) → Judged P r ts x → Judged (Both P Q) (λ ws. behind (r ws) s) ts (behind x s)
both_judged P Q r s complete ts second (Ok q) k = both_second P Q r s ts q.0 q.1 k (s q.1) (second q.0 q.1 k)
both_judged P Q r s complete ts second (Err bad) k = record {
  front = k.front;
  whole = k.whole;
  viable = record {
    more = k.viable.more ++ complete.0;
    value = (k.viable.value, complete.1);
    spelled = (k.front ++ k.viable.more, complete.0, sym (append_assoc k.front k.viable.more complete.0), k.viable.spelled, complete.2);
  };
  again = λ us a. ap (λ x. behind x s) (k.again us a);
}

-- what follows the first part cannot go on with it
seam : {T B : Type 0} (Q : List T → B → Type 0) (p goes : T → Bool)
    → ((t : T) (ts : List T) (w : B) → Q (t ∷ ts) w → p t ≡ false)
    → ((w : B) (t : T) → Q [] w → goes t ≡ false → p t ≡ false)
    → (ws : List T) (w : B) (rest : List T) → Q ws w → begins goes rest ≡ false → begins p (ws ++ rest) ≡ false
seam Q p goes firsts empties [] w rest h clear = begins_within goes p (λ t. empties w t h) rest clear
seam Q p goes firsts empties (t ∷ ts) w rest h clear = firsts t ts w h

pub exact_both : {T A B : Type 0} (P : List T → A → Type 0) (Q : List T → B → Type 0) (p q goes : T → Bool)
    (r : List T → Reading T A) (s : List T → Reading T B)
    → Exact P p r → Exact Q q s → SomeSpelling Q
    → ((t : T) (ts : List T) (w : B) → Q (t ∷ ts) w → p t ≡ false)
    → ((w : B) (t : T) → Q [] w → goes t ≡ false → p t ≡ false)
    → ((t : T) → goes t ≡ false → q t ≡ false)
    → Exact (Both P Q) goes (λ ts. behind (r ts) s)
exact_both P Q p q goes r s e d complete firsts empties further = record {
  judged = λ ts. both_judged P Q r s complete ts (λ v mid k. d.judged mid) (r ts) (e.judged ts);
  all = λ front v rest (us, ws, eq, left, right) clear.
      ap (λ zs. behind (r zs) s) (ap (λ zs. zs ++ rest) eq ∙ append_assoc us ws rest)
      ∙ ap (λ x. behind x s) (e.all us v.0 (ws ++ rest) left (seam Q p goes firsts empties ws v.1 rest right clear))
      ∙ ap (mapped (λ w. (v.0, w))) (d.all ws v.1 rest right (begins_within goes q further rest clear));
}

-- mapped

to_judged : {T A B : Type 0} (f : A → B) (P : List T → A → Type 0) (r : List T → Reading T A) (ts : List T)
    (x : Reading T A) → Judged P r ts x → Judged (To f P) (λ ws. mapped f (r ws)) ts (mapped f x)
to_judged f P r ts (Ok q) k = record {
  front = k.front;
  whole = k.whole;
  spelled = (q.0, k.spelled, refl);
  again = λ us a. ap (mapped f) (k.again us a);
}
to_judged f P r ts (Err bad) k = record {
  front = k.front;
  whole = k.whole;
  viable = record { more = k.viable.more; value = f k.viable.value; spelled = (k.viable.value, k.viable.spelled, refl) };
  again = λ us a. ap (mapped f) (k.again us a);
}

pub exact_to : {T A B : Type 0} (f : A → B) (P : List T → A → Type 0) (goes : T → Bool) (r : List T → Reading T A)
    → Exact P goes r → Exact (To f P) goes (λ ts. mapped f (r ts))
exact_to f P goes r e = record {
  judged = λ ts. to_judged f P r ts (r ts) (e.judged ts);
  all = λ front v rest (a, spelled, veq) clear. rw veq (ap (mapped f) (e.all front a rest spelled clear));
}

-- a reader that is another one on the lists that begin alike, for spellings of which the other one's are some

chosen_judged : {T A : Type 0} (P Q : List T → A → Type 0) (f : T → Bool) (b : Bool) (r s : List T → Reading T A)
    → ((ts : List T) (v : A) → P ts v → Q ts v) → ((ts : List T) → begins f ts ≡ b → s ts ≡ r ts)
    → (ts : List T) → begins f ts ≡ b → (x : Reading T A) → Judged P r ts x → Judged Q s ts x
chosen_judged P Q f b r s within same ts h (Ok q) k = record {
  front = k.front;
  whole = k.whole;
  spelled = within k.front q.0 k.spelled;
  again = λ us a. same (k.front ++ us) (begins_behind f b ts k.front us q.1 k.whole a h) ∙ k.again us a;
}
chosen_judged P Q f b r s within same ts h (Err bad) k = record {
  front = k.front;
  whole = k.whole;
  viable = record { more = k.viable.more; value = k.viable.value; spelled = within (k.front ++ k.viable.more) k.viable.value k.viable.spelled };
  again = λ us a. same (k.front ++ us) (begins_behind f b ts k.front us bad k.whole a h) ∙ k.again us a;
}

-- either of two

choice_judged : {T A : Type 0} (P Q : List T → A → Type 0) (p q f : T → Bool) (r s : List T → Reading T A)
    → Exact P p r → Exact Q q s → (ts : List T) (b : Bool) → begins f ts ≡ b
    → Judged (λ ws v. P ws v ⊎ Q ws v) (λ ws. cond (begins f ws) (r ws) (s ws)) ts (cond b (r ts) (s ts))
choice_judged P Q p q f r s e d ts true h =
    chosen_judged P (λ ws v. P ws v ⊎ Q ws v) f true r (λ ws. cond (begins f ws) (r ws) (s ws)) (λ ws v. inl) (λ ws eq. rw eq) ts h (r ts) (e.judged ts)
choice_judged P Q p q f r s e d ts false h =
    chosen_judged Q (λ ws v. P ws v ⊎ Q ws v) f false s (λ ws. cond (begins f ws) (r ws) (s ws)) (λ ws v. inr) (λ ws eq. rw eq) ts h (s ts) (d.judged ts)

begins_left : {T A : Type 0} (P : List T → A → Type 0) (f : T → Bool)
    → ((v : A) → P [] v → ⊥) → ((t : T) (ts : List T) (v : A) → P (t ∷ ts) v → f t ≡ true)
    → (front : List T) (v : A) (rest : List T) → P front v → begins f (front ++ rest) ≡ true
begins_left P f full starts [] v rest h = absurd (full v h)
begins_left P f full starts (t ∷ ts) v rest h = starts t ts v h

pub exact_choice : {T A : Type 0} (P Q : List T → A → Type 0) (p q goes f : T → Bool) (r s : List T → Reading T A)
    → Exact P p r → Exact Q q s
    → ((v : A) → P [] v → ⊥)
    → ((t : T) (ts : List T) (v : A) → P (t ∷ ts) v → f t ≡ true)
    → ((t : T) (ts : List T) (v : A) → Q (t ∷ ts) v → f t ≡ false)
    → ((v : A) (t : T) → Q [] v → goes t ≡ false → f t ≡ false)
    → ((t : T) → goes t ≡ false → p t ≡ false)
    → ((t : T) → goes t ≡ false → q t ≡ false)
    → Exact (λ ts v. P ts v ⊎ Q ts v) goes (λ ts. cond (begins f ts) (r ts) (s ts))
exact_choice P Q p q goes f r s e d full starts others empties left right = record {
  judged = λ ts. choice_judged P Q p q f r s e d ts (begins f ts) refl;
  all = λ front v rest h clear. elim h [
    | inl h' ↦ rw (begins_left P f full starts front v rest h') (e.all front v rest h' (begins_within goes p left rest clear))
    | inr h' ↦ rw (seam Q f goes others empties front v rest h' clear) (d.all front v rest h' (begins_within goes q right rest clear))
  ];
}

-- any number of one

-- what is left is shorter than what was there
abbrev pub Shrinks : {T A : Type 0} → (List T → Reading T A) → Type 0
Shrinks {T = T} {A = A} r = (ts : List T) (v : A) (rest : List T) → r ts ≡ Ok (v, rest) → length rest < length ts

onward_alike : {T A : Type 0} (r : List T → Reading T A) (k l : List T → Reading T (List A)) (ts : List T)
    → ((v : A) (us : List T) → r ts ≡ Ok (v, us) → k us ≡ l us) → (x : Reading T A) → r ts ≡ x
    → mapped in_front (behind x k) ≡ mapped in_front (behind x l)
onward_alike r k l ts same (Ok q) e = ap (λ y. mapped in_front (mapped (λ w. (q.0, w)) y)) (same q.0 q.1 e)
onward_alike r k l ts same (Err bad) e = refl

-- a bound that is not below the length changes nothing
repeat_bound : {T A : Type 0} (f : T → Bool) (r : List T → Reading T A) → Shrinks r
    → (n m : ℕ) (ts : List T) → length ts ≤ n → length ts ≤ m → repeat f r n ts ≡ repeat f r m ts
repeat_bound f r shrinks zero zero ts below under = refl
repeat_bound f r shrinks zero (suc m) [] below under = refl
repeat_bound f r shrinks zero (suc m) (t ∷ ts) below under = absurd (omega arith)
repeat_bound f r shrinks (suc n) zero [] below under = refl
repeat_bound f r shrinks (suc n) zero (t ∷ ts) below under = absurd (omega arith)
repeat_bound f r shrinks (suc n) (suc m) ts below under =
    ap (λ y. cond (begins f ts) y (Ok ([], ts))) (onward_alike r (repeat f r n) (repeat f r m) ts
    (λ v us e. let less : length us < length ts = shrinks ts v us e in
    repeat_bound f r shrinks n m us (omega arith) (omega arith))
    (r ts) refl)

pub many_unrolls : {T A : Type 0} (f : T → Bool) (r : List T → Reading T A) → Shrinks r → (ts : List T)
    → read_many f r ts ≡ cond (begins f ts) (mapped in_front (behind (r ts) (read_many f r))) (Ok ([], ts))
many_unrolls f r shrinks [] = refl
many_unrolls f r shrinks (t ∷ ts) =
    ap (λ y. cond (f t) y (Ok ([], t ∷ ts))) (onward_alike r (repeat f r (length ts)) (read_many f r) (t ∷ ts)
    (λ v us e. let less : length us < length (t ∷ ts) = shrinks (t ∷ ts) v us e in
    repeat_bound f r shrinks (length ts) (length us) us (omega arith) (omega arith))
    (r (t ∷ ts)) refl)

pub none_left : {T A : Type 0} (f : T → Bool) (r : List T → Reading T A) → Shrinks r
    → (ts : List T) → begins f ts ≡ false → read_many f r ts ≡ Ok ([], ts)
none_left f r shrinks ts h =
    many_unrolls f r shrinks ts ∙ ap (λ b. cond b (mapped in_front (behind (r ts) (read_many f r))) (Ok ([], ts))) h

pub some_left : {T A : Type 0} (f : T → Bool) (r : List T → Reading T A) → Shrinks r
    → (ts : List T) → begins f ts ≡ true → read_many f r ts ≡ mapped in_front (behind (r ts) (read_many f r))
some_left f r shrinks ts h =
    many_unrolls f r shrinks ts ∙ ap (λ b. cond b (mapped in_front (behind (r ts) (read_many f r))) (Ok ([], ts))) h

-- an exact reader leaves what stands behind a front
pub took_of : {T A : Type 0} (P : List T → A → Type 0) (p : T → Bool) (r : List T → Reading T A) → Exact P p r
    → (ts : List T) (v : A) (rest : List T) → r ts ≡ Ok (v, rest) → Took P r ts v rest
took_of P p r e ts v rest eq = subst (Judged P r ts) eq (e.judged ts)

took_some : {T A : Type 0} (P : List T → A → Type 0) → ((v : A) → P [] v → ⊥)
    → (ts : List T) (v : A) (rest front : List T) → ts ≡ front ++ rest → P front v → length rest < length ts
took_some P full ts v rest [] whole h = absurd (full v h)
took_some P full ts v rest (t ∷ front) whole h =
    let longer : length ts ≡ suc (length (front ++ rest)) = ap length whole in omega (arith, length-append front rest)

pub shrinks_of : {T A : Type 0} (P : List T → A → Type 0) (p : T → Bool) (r : List T → Reading T A) → Exact P p r
    → ((v : A) → P [] v → ⊥) → Shrinks r
shrinks_of P p r e full ts v rest eq =
    let k = took_of P p r e ts v rest eq in took_some P full ts v rest k.front k.whole k.spelled

one_more : {T A : Type 0} (P : List T → A → Type 0) (ts : List T) (vs : List A)
    → To in_front (Both P (repeated P)) ts vs → repeated P ts vs
one_more P ts vs (a, h, eq) = subst (repeated P ts) (sym eq) h

many_step : {T A : Type 0} (P : List T → A → Type 0) (p f : T → Bool) (r : List T → Reading T A) → Exact P p r → ((v : A) → P [] v → ⊥)
    → (ts : List T) → ((us : List T) → length us < length ts → Judged (repeated P) (read_many f r) us (read_many f r us))
    → (b : Bool) → begins f ts ≡ b → Judged (repeated P) (read_many f r) ts (read_many f r ts)
many_step {T = T} {A = A} P p f r e full ts below false h =
    let J : Reading T (List A) → Type 0 = Judged (repeated P) (read_many f r) ts in
    subst J (sym (none_left f r (shrinks_of P p r e full) ts h)) (record {
      front = [];
      whole = refl;
      spelled = refl;
      again = λ us a. none_left f r (shrinks_of P p r e full) us (begins_alike f us ts a ∙ h);
    })
many_step {T = T} {A = A} P p f r e full ts below true h =
    let J : Reading T (List A) → Type 0 = Judged (repeated P) (read_many f r) ts in
    subst J (sym (some_left f r (shrinks_of P p r e full) ts h))
    (chosen_judged (To in_front (Both P (repeated P))) (repeated P) f true
    (λ ws. mapped in_front (behind (r ws) (read_many f r))) (read_many f r)
    (one_more P) (some_left f r (shrinks_of P p r e full)) ts h (mapped in_front (behind (r ts) (read_many f r)))
    (to_judged in_front (Both P (repeated P)) (λ ws. behind (r ws) (read_many f r)) ts (behind (r ts) (read_many f r))
    (both_judged P (repeated P) r (read_many f r) ([], [], refl) ts
    (λ v mid k. below mid (took_some P full ts v mid k.front k.whole k.spelled)) (r ts) (e.judged ts))))

many_judged : {T A : Type 0} (P : List T → A → Type 0) (p f : T → Bool) (r : List T → Reading T A) → Exact P p r → ((v : A) → P [] v → ⊥)
    → (n : ℕ) (ts : List T) → length ts ≤ n → Judged (repeated P) (read_many f r) ts (read_many f r ts)
many_judged P p f r e full zero ts bound = many_step P p f r e full ts (λ us less. absurd (omega arith)) (begins f ts) refl
many_judged P p f r e full (suc n) ts bound =
    many_step P p f r e full ts (λ us less. many_judged P p f r e full n us (omega arith)) (begins f ts) refl

pub repeated_starts : {T A : Type 0} (P : List T → A → Type 0) (f : T → Bool)
    → ((v : A) → P [] v → ⊥) → ((t : T) (ts : List T) (v : A) → P (t ∷ ts) v → f t ≡ true)
    → (t : T) (ts : List T) (vs : List A) → repeated P (t ∷ ts) vs → f t ≡ true
repeated_starts P f full starts t ts [] h = cc
repeated_starts P f full starts t ts (v ∷ vs) (us, ws, eq, here, others) =
    ap (begins f) eq ∙ begins_left P f full starts us v ws here

many_all : {T A : Type 0} (P : List T → A → Type 0) (p f goes : T → Bool) (r : List T → Reading T A)
    → Exact P p r → ((v : A) → P [] v → ⊥) → ((t : T) (ts : List T) (v : A) → P (t ∷ ts) v → f t ≡ true)
    → Apart f p → ((t : T) → goes t ≡ false → f t ≡ false) → ((t : T) → goes t ≡ false → p t ≡ false)
    → (front : List T) (vs : List A) (rest : List T) → repeated P front vs → begins goes rest ≡ false
    → read_many f r (front ++ rest) ≡ Ok (vs, rest)
many_all P p f goes r e full starts apart ends inner front [] rest eq clear =
    ap (λ ws. read_many f r (ws ++ rest)) eq ∙ none_left f r (shrinks_of P p r e full) rest (begins_within goes f ends rest clear)
many_all P p f goes r e full starts apart ends inner front (v ∷ vs) rest (us, ws, eq, here, others) clear =
    ap (read_many f r) (ap (λ zs. zs ++ rest) eq ∙ append_assoc us ws rest)
    ∙ some_left f r (shrinks_of P p r e full) (us ++ (ws ++ rest)) (begins_left P f full starts us v (ws ++ rest) here)
    ∙ ap (λ x. mapped in_front (behind x (read_many f r))) (e.all us v (ws ++ rest) here
    (seam (repeated P) p goes
    (λ t ts w h. false_from_ne_true (p t) (apart t (repeated_starts P f full starts t ts w h)))
    (λ w t h. inner t) ws vs rest others clear))
    ∙ ap (λ y. mapped in_front (mapped (λ w. (v, w)) y)) (many_all P p f goes r e full starts apart ends inner ws vs rest others clear)

pub exact_many : {T A : Type 0} (P : List T → A → Type 0) (p f goes : T → Bool) (r : List T → Reading T A)
    → Exact P p r → ((v : A) → P [] v → ⊥) → ((t : T) (ts : List T) (v : A) → P (t ∷ ts) v → f t ≡ true)
    → Apart f p → ((t : T) → goes t ≡ false → f t ≡ false) → ((t : T) → goes t ≡ false → p t ≡ false)
    → Exact (repeated P) goes (read_many f r)
exact_many P p f goes r e full starts apart ends inner = record {
  judged = λ ts. many_judged P p f r e full (length ts) ts (le_refl (length ts));
  all = many_all P p f goes r e full starts apart ends inner;
}

-- two relations that hold of the same

same_judged : {T A : Type 0} (P Q : List T → A → Type 0) (r : List T → Reading T A)
    → ((ts : List T) (v : A) → P ts v → Q ts v) → (ts : List T) (x : Reading T A) → Judged P r ts x → Judged Q r ts x
same_judged P Q r there ts (Ok q) k = record { front = k.front; whole = k.whole; spelled = there k.front q.0 k.spelled; again = k.again }
same_judged P Q r there ts (Err bad) k = record {
  front = k.front;
  whole = k.whole;
  viable = record { more = k.viable.more; value = k.viable.value; spelled = there (k.front ++ k.viable.more) k.viable.value k.viable.spelled };
  again = k.again;
}

pub exact_same : {T A : Type 0} (P Q : List T → A → Type 0) (goes : T → Bool) (r : List T → Reading T A)
    → ((ts : List T) (v : A) → P ts v → Q ts v) → ((ts : List T) (v : A) → Q ts v → P ts v)
    → Exact P goes r → Exact Q goes r
exact_same P Q goes r there back e = record {
  judged = λ ts. same_judged P Q r there ts (r ts) (e.judged ts);
  all = λ front v rest h clear. e.all front v rest (back front v h) clear;
}
