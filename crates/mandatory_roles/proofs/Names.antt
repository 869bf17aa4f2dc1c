-- Names between backquotes.
use Rattle.std.proofs.Common.{◌≡◌, ◌≢◌, ℕ, Bool, true, false, eqb, List, [], ◌∷◌, ◌++◌, Option, Some, None, refl, sym, subst, ap, ◌∙◌}
use Rattle.acl_names.specs.Quoted.{doubled, quoted}
use Rattle.grant_lex.specs.Value.{inside_value, value_of}
use Rattle.mandatory_roles.specs.Cutting.{Cut, byte_before, closed_at}
use Rattle.mandatory_roles.proofs.Bytes.{is_byte, not_byte, other_byte}
use Rattle.mandatory_roles.proofs.Closings.{BeginsOther, closed_doubled, closed_here, closed_nowhere, closed_plain}

doubled_plain : (b : ℕ) (name : List ℕ) → b ≢ 96 → doubled (b ∷ name) ≡ b ∷ doubled name
doubled_plain b name differ = rw (other_byte b 96 differ) refl

-- what is found behind an opening backquote is a name with each backquote twice, and the closing one
pub record IsClosing (text : List ℕ) (cut : Cut) : Type 0 where
  pub name : List ℕ
  pub front : cut.front ≡ doubled name ++ 96 ∷ []
  pub whole : text ≡ cut.front ++ cut.rest

abbrev pub IsClosed : List ℕ → Option Cut → Type 0
IsClosed text None = Unit {0}
IsClosed text (Some cut) = IsClosing text cut

plain_before : (b : ℕ) (text : List ℕ) (o : Option Cut) → b ≢ 96 → IsClosed text o → IsClosed (b ∷ text) (byte_before b o)
plain_before b text None differ closed = tt
plain_before b text (Some cut) differ closed = record {
  name = b ∷ closed.name;
  front = ap (λ l. b ∷ l) closed.front ∙ sym (ap (λ l. l ++ 96 ∷ []) (doubled_plain b closed.name differ));
  whole = ap (λ l. b ∷ l) closed.whole;
}

double_before : (text : List ℕ) (o : Option Cut) → IsClosed text o → IsClosed (96 ∷ 96 ∷ text) (byte_before 96 (byte_before 96 o))
double_before text None closed = tt
double_before text (Some cut) closed = record {
  name = 96 ∷ closed.name;
  front = ap (λ l. 96 ∷ 96 ∷ l) closed.front;
  whole = ap (λ l. 96 ∷ 96 ∷ l) closed.whole;
}

closes_here : (rest : List ℕ) → IsClosing (96 ∷ rest) (record { front = 96 ∷ []; rest = rest })
closes_here rest = record { name = []; front = refl; whole = refl }

one_byte : (b : ℕ) (t : Bool) → eqb b 96 ≡ t → IsClosed (b ∷ []) (closed_at (b ∷ []))
one_byte b true e = subst (λ k. IsClosed (k ∷ []) (closed_at (k ∷ []))) (sym (is_byte b 96 e)) (subst (IsClosed (96 ∷ [])) (sym (closed_here [] tt)) (closes_here []))
one_byte b false e =
    subst (IsClosed (b ∷ [])) (sym (closed_plain b [] (not_byte b 96 e) ∙ ap (byte_before b) closed_nowhere)) tt

two_bytes : (b c : ℕ) (bs : List ℕ) (s t : Bool) → eqb b 96 ≡ s → eqb c 96 ≡ t → IsClosed (c ∷ bs) (closed_at (c ∷ bs)) → IsClosed bs (closed_at bs) → IsClosed (b ∷ c ∷ bs) (closed_at (b ∷ c ∷ bs))
two_bytes b c bs false t e f next past =
    subst (IsClosed (b ∷ c ∷ bs)) (sym (closed_plain b (c ∷ bs) (not_byte b 96 e))) (plain_before b (c ∷ bs) (closed_at (c ∷ bs)) (not_byte b 96 e) next)
two_bytes b c bs true false e f next past =
    subst (λ k. IsClosed (k ∷ c ∷ bs) (closed_at (k ∷ c ∷ bs))) (sym (is_byte b 96 e))
    (subst (IsClosed (96 ∷ c ∷ bs)) (sym (closed_here (c ∷ bs) (not_byte c 96 f))) (closes_here (c ∷ bs)))
two_bytes b c bs true true e f next past =
    subst (λ k. IsClosed (k ∷ c ∷ bs) (closed_at (k ∷ c ∷ bs))) (sym (is_byte b 96 e))
    (subst (λ k. IsClosed (96 ∷ k ∷ bs) (closed_at (96 ∷ k ∷ bs))) (sym (is_byte c 96 f))
    (subst (IsClosed (96 ∷ 96 ∷ bs)) (sym (closed_doubled bs)) (double_before bs (closed_at bs) past)))

pub closed_found : (text : List ℕ) → IsClosed text (closed_at text)
closed_found [] = subst (IsClosed []) (sym closed_nowhere) tt
closed_found (b ∷ []) = one_byte b (eqb b 96) refl
closed_found (b ∷ c ∷ bs) = two_bytes b c bs (eqb b 96) (eqb c 96) refl refl (closed_found (c ∷ bs)) (closed_found bs)

-- and such a name is found whole, where no backquote follows the closing one
closed_step : (b : ℕ) (name rest : List ℕ) (t : Bool) → eqb b 96 ≡ t → closed_at (doubled name ++ 96 ∷ rest) ≡ Some (record { front = doubled name ++ 96 ∷ []; rest = rest }) → closed_at (doubled (b ∷ name) ++ 96 ∷ rest) ≡ Some (record { front = doubled (b ∷ name) ++ 96 ∷ []; rest = rest })
closed_step b name rest true e found =
    subst (λ k. closed_at (doubled (k ∷ name) ++ 96 ∷ rest) ≡ Some (record { front = doubled (k ∷ name) ++ 96 ∷ []; rest = rest })) (sym (is_byte b 96 e))
    (closed_doubled (doubled name ++ 96 ∷ rest) ∙ ap (λ o. byte_before 96 (byte_before 96 o)) found)
closed_step b name rest false e found =
    subst (λ l. closed_at (l ++ 96 ∷ rest) ≡ Some (record { front = l ++ 96 ∷ []; rest = rest })) (sym (doubled_plain b name (not_byte b 96 e)))
    (closed_plain b (doubled name ++ 96 ∷ rest) (not_byte b 96 e) ∙ ap (byte_before b) found)

pub closed_exact : (name rest : List ℕ) → BeginsOther rest → closed_at (doubled name ++ 96 ∷ rest) ≡ Some (record { front = doubled name ++ 96 ∷ []; rest = rest })
closed_exact [] rest other = closed_here rest other
closed_exact (b ∷ name) rest other = closed_step b name rest (eqb b 96) refl (closed_exact name rest other)

-- what such a name stands for
inside_end : inside_value 96 (96 ∷ []) ≡ []
unfolding inside_value
inside_end = refl

inside_double : (rest : List ℕ) → inside_value 96 (96 ∷ 96 ∷ rest) ≡ 96 ∷ inside_value 96 rest
unfolding inside_value
inside_double rest = refl

inside_plain : (b : ℕ) (rest : List ℕ) → b ≢ 96 → inside_value 96 (b ∷ rest) ≡ b ∷ inside_value 96 rest
unfolding inside_value
inside_plain b [] differ = rw (other_byte b 96 differ) refl
inside_plain b (c ∷ rest) differ = rw (other_byte b 96 differ) refl

inside_step : (b : ℕ) (name : List ℕ) (t : Bool) → eqb b 96 ≡ t → inside_value 96 (doubled name ++ 96 ∷ []) ≡ name → inside_value 96 (doubled (b ∷ name) ++ 96 ∷ []) ≡ b ∷ name
inside_step b name true e is =
    subst (λ k. inside_value 96 (doubled (k ∷ name) ++ 96 ∷ []) ≡ k ∷ name) (sym (is_byte b 96 e)) (inside_double (doubled name ++ 96 ∷ []) ∙ ap (λ l. 96 ∷ l) is)
inside_step b name false e is =
    ap (λ l. inside_value 96 (l ++ 96 ∷ [])) (doubled_plain b name (not_byte b 96 e)) ∙ inside_plain b (doubled name ++ 96 ∷ []) (not_byte b 96 e) ∙ ap (λ l. b ∷ l) is

inside_doubled : (name : List ℕ) → inside_value 96 (doubled name ++ 96 ∷ []) ≡ name
inside_doubled [] = inside_end
inside_doubled (b ∷ name) = inside_step b name (eqb b 96) refl (inside_doubled name)

pub value_quoted : (name : List ℕ) → value_of (quoted name) ≡ name
value_quoted name = inside_doubled name
