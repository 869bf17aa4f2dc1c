-- The roles in a text are those that it spells.
use Rattle.std.proofs.Common.{◌≡◌, ◌≢◌, ℕ, zero, suc, ◌+◌, ◌≤◌, Bool, true, false, cond, eqb, List, [], ◌∷◌, ◌++◌, Option, Some, None, option_map, Result, Ok, Err, IfOk, length, refl, sym, subst, ap, ◌∙◌, arith, append-nil}
use Rattle.acl_names.specs.declared.auth.AuthId.{AuthId}
use Rattle.mandatory_roles.specs.Cutting.{Written, written_at}
use Rattle.mandatory_roles.specs.Roles.{role_of, roles_behind, roles_in, roles_up_to, with_role, with_written}
use Rattle.mandatory_roles.specs.Spelling.{IsReadAs, SpellsPadded, SpellsRoles}
use Rattle.mandatory_roles.proofs.Accounts.{IsEnd, padded_stands, role_kept}
use Rattle.mandatory_roles.proofs.Bytes.{is_byte}
use Rattle.mandatory_roles.proofs.Findings.{IsWritten, IsWrittenAt, role_found, written_found}
use Rattle.mandatory_roles.proofs.OneByOne.{none_up_to, read_nothing, some_up_to}

-- a role that is spelled comes first
first_spelled : (more : List ℕ → Option (List AuthId)) (text : List ℕ) (role : AuthId) (tail : List ℕ) → SpellsPadded text role → IsEnd tail → with_written more (written_at (text ++ tail)) ≡ option_map (λ roles. role ∷ roles) (roles_behind more tail)
first_spelled more text role tail padded end =
    let stands = padded_stands text role tail padded end in
    ap (with_written more) stands.is ∙ ap (with_role more tail) (role_kept padded.inner role padded.spelled stands.name stands.place stands.user_is stands.host_is)

pub up_to_spelled : (n : ℕ) (text : List ℕ) (role : AuthId) (roles : List AuthId) → SpellsRoles text (role ∷ roles) → length (role ∷ roles) ≤ n → roles_up_to n text ≡ Some (role ∷ roles)
up_to_spelled zero text role roles spelled few = absurd (omega arith)
up_to_spelled (suc n) text role [] spelled few =
    some_up_to n text ∙ ap (λ l. with_written (roles_up_to n) (written_at l)) (sym (append-nil text)) ∙ first_spelled (roles_up_to n) text role [] spelled tt
up_to_spelled (suc n) text role (second ∷ roles) (first, others, whole, padded, rest) few =
    some_up_to n text
    ∙ ap (λ l. with_written (roles_up_to n) (written_at l)) whole
    ∙ first_spelled (roles_up_to n) first role (44 ∷ others) padded refl
    ∙ ap (option_map (λ rs. role ∷ rs)) (up_to_spelled n others second roles rest (omega arith))

-- and what is found is spelled
pub record IsListAt (n : ℕ) (text : List ℕ) (roles : List AuthId) : Type 0 where
  pub some : roles ≢ []
  pub few : length roles ≤ n
  pub spelled : SpellsRoles text roles

abbrev pub IsList : ℕ → List ℕ → Option (List AuthId) → Type 0
IsList n text None = Unit {0}
IsList n text (Some roles) = IsListAt n text roles

padded_from : (text : List ℕ) (w : Written) (role : AuthId) (found : IsWrittenAt text w) → role_of w.name w.host ≡ Some role → SpellsPadded (found.before ++ (found.inner ++ found.padding)) role
padded_from text w role found is = record {
  before = found.before;
  inner = found.inner;
  behind = found.padding;
  whole = refl;
  blanks = found.blanks;
  spelled = role_found found.inner w.name w.host role found.spelled is;
}

last_found : (n : ℕ) (text first : List ℕ) (role : AuthId) → text ≡ first ++ [] → SpellsPadded first role → IsListAt (suc n) text (role ∷ [])
last_found n text first role whole padded = record {
  some = λ same. cc;
  few = omega arith;
  spelled = subst (λ l. SpellsPadded l role) (sym (whole ∙ append-nil first)) padded;
}

more_found : (n : ℕ) (text first others : List ℕ) (role : AuthId) (o : Option (List AuthId)) → text ≡ first ++ (44 ∷ others) → SpellsPadded first role → IsList n others o → IsList (suc n) text (option_map (λ roles. role ∷ roles) o)
more_found n text first others role None whole padded found = tt
more_found n text first others role (Some []) whole padded found = absurd (found.some refl)
more_found n text first others role (Some (second ∷ roles)) whole padded found = record {
  some = λ same. cc;
  few = omega (arith, found.few);
  spelled = (first, others, whole, padded, found.spelled);
}

comma_test : (n : ℕ) (text first : List ℕ) (role : AuthId) (b : ℕ) (bs : List ℕ) (t : Bool) → eqb b 44 ≡ t → text ≡ first ++ (b ∷ bs) → SpellsPadded first role → IsList n bs (roles_up_to n bs) → IsList (suc n) text (option_map (λ roles. role ∷ roles) (cond t (roles_up_to n bs) None))
comma_test n text first role b bs true e whole padded found =
    more_found n text first bs role (roles_up_to n bs) (whole ∙ ap (λ k. first ++ (k ∷ bs)) (is_byte b 44 e)) padded found
comma_test n text first role b bs false e whole padded found = tt

rest_found : (n : ℕ) (text first : List ℕ) (role : AuthId) (rest : List ℕ) → text ≡ first ++ rest → SpellsPadded first role → ((others : List ℕ) → IsList n others (roles_up_to n others)) → IsList (suc n) text (option_map (λ roles. role ∷ roles) (roles_behind (roles_up_to n) rest))
rest_found n text first role [] whole padded all = last_found n text first role whole padded
rest_found n text first role (b ∷ bs) whole padded all = comma_test n text first role b bs (eqb b 44) refl whole padded (all bs)

role_then : (n : ℕ) (text : List ℕ) (w : Written) (o : Option AuthId) → role_of w.name w.host ≡ o → IsWrittenAt text w → ((others : List ℕ) → IsList n others (roles_up_to n others)) → IsList (suc n) text (with_role (roles_up_to n) w.rest o)
role_then n text w None is found all = tt
role_then n text w (Some role) is found all =
    rest_found n text (found.before ++ (found.inner ++ found.padding)) role w.rest found.whole (padded_from text w role found is) all

written_then : (n : ℕ) (text : List ℕ) (o : Option Written) → IsWritten text o → ((others : List ℕ) → IsList n others (roles_up_to n others)) → IsList (suc n) text (with_written (roles_up_to n) o)
written_then n text None found all = tt
written_then n text (Some w) found all = role_then n text w (role_of w.name w.host) refl found all

pub up_to_found : (n : ℕ) (text : List ℕ) → IsList n text (roles_up_to n text)
up_to_found zero text = subst (IsList 0 text) (sym (none_up_to text)) tt
up_to_found (suc n) text =
    subst (IsList (suc n) text) (sym (some_up_to n text)) (written_then n text (written_at text) (written_found text) (up_to_found n))

-- the whole text
in_is : (b : ℕ) (bs : List ℕ) → roles_in (b ∷ bs) ≡ roles_up_to 4096 (b ∷ bs)
unfolding roles_in
in_is b bs = refl

nothing_written : written_at [] ≡ None
unfolding written_at
nothing_written = refl

some_text : (role : AuthId) (roles : List AuthId) → SpellsRoles [] (role ∷ roles) → ⊥
some_text role roles spelled =
    let n : ℕ = length roles in
    let found = up_to_spelled (suc n) [] role roles spelled (omega arith) in
    let none : roles_up_to (suc n) [] ≡ None = some_up_to n [] ∙ ap (with_written (roles_up_to n)) nothing_written in
    let clash : None ≡ Some (role ∷ roles) = sym none ∙ found in
    cc

pub in_found : (text : List ℕ) (roles : List AuthId) → roles_in text ≡ Some roles → SpellsRoles text roles × (length roles ≤ 4096)
in_found [] [] is = (refl, omega arith)
in_found [] (role ∷ roles) is = let clash : Some [] ≡ Some (role ∷ roles) = sym read_nothing ∙ is in cc
in_found (b ∷ bs) roles is =
    let found = subst (IsList 4096 (b ∷ bs)) (sym (in_is b bs) ∙ is) (up_to_found 4096 (b ∷ bs)) in
    (found.spelled, found.few)

pub in_only : (text : List ℕ) (roles : List AuthId) → SpellsRoles text roles → length roles ≤ 4096 → roles_in text ≡ Some roles
in_only text [] spelled few = ap roles_in spelled ∙ read_nothing
in_only [] (role ∷ roles) spelled few = absurd (some_text role roles spelled)
in_only (b ∷ bs) (role ∷ roles) spelled few = in_is b bs ∙ up_to_spelled 4096 (b ∷ bs) role roles spelled few

pub spelled_same : (text : List ℕ) (roles others : List AuthId) → SpellsRoles text roles → SpellsRoles text others → roles ≡ others
spelled_same text [] [] a b = refl
spelled_same text [] (role ∷ others) a b = absurd (some_text role others (subst (λ l. SpellsRoles l (role ∷ others)) a b))
spelled_same text (role ∷ roles) [] a b = absurd (some_text role roles (subst (λ l. SpellsRoles l (role ∷ roles)) b a))
spelled_same text (role ∷ roles) (other ∷ others) a b =
    let n : ℕ = length (role ∷ roles) + length (other ∷ others) in
    let one : roles_up_to n text ≡ Some (role ∷ roles) = up_to_spelled n text role roles a (omega arith) in
    let two : roles_up_to n text ≡ Some (other ∷ others) = up_to_spelled n text other others b (omega arith) in
    let same : Some (role ∷ roles) ≡ Some (other ∷ others) = sym one ∙ two in
    cc

-- what is computed is what is spelled, and the other way round
pub in_spelled : (text : List ℕ) (o : Option (List AuthId)) → o ≡ roles_in text → IsReadAs text o
in_spelled text (Some roles) is = in_found text roles (sym is)
in_spelled text None is = λ roles spelled few. let clash : None ≡ Some roles = is ∙ in_only text roles spelled few in cc

pub spelled_in : (text : List ℕ) (o : Option (List AuthId)) → IsReadAs text o → o ≡ roles_in text
spelled_in text (Some roles) is = sym (in_only text roles is.0 is.1)
spelled_in text None none = by_cases (roles_in text) refl
  where
    by_cases : (o : Option (List AuthId)) → roles_in text ≡ o → None ≡ roles_in text
    by_cases None e = sym e
    by_cases (Some roles) e = let found = in_found text roles e in absurd (none roles found.0 found.1)

pub ok_spelled : {E : Type 0} (text : List ℕ) (r : Result (Option (List AuthId)) E) → IfOk r (λ o. o ≡ roles_in text) → IfOk r (λ o. IsReadAs text o)
ok_spelled text (Ok o) is = in_spelled text o is
ok_spelled text (Err _) is = is

pub ok_in : {E : Type 0} (text : List ℕ) (r : Result (Option (List AuthId)) E) → IfOk r (λ o. IsReadAs text o) → IfOk r (λ o. o ≡ roles_in text)
ok_in text (Ok o) is = spelled_in text o is
ok_in text (Err _) is = is
