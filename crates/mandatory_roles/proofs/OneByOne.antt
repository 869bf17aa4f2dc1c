-- A list of roles, read from the left.
use Rattle.std.proofs.Common.{◌≡◌, ℕ, zero, suc, ◌+◌, ◌-◌, ◌<◌, ◌≤◌, Bool, true, false, cond, eqb, List, [], ◌∷◌, ◌++◌, Option, Some, None, option_map, length, refl, sym, subst, ap, ◌∙◌, arith, append_assoc}
use Rattle.std.proofs.lemmas.Bool.{true≢false}
use Rattle.acl_names.specs.declared.auth.AuthId.{AuthId}
use Rattle.mandatory_roles.specs.Cutting.{Written, past_mark, written_at}
use Rattle.mandatory_roles.specs.Roles.{role_of, roles_behind, roles_in, roles_up_to, with_role, with_written}

pub none_up_to : (text : List ℕ) → roles_up_to 0 text ≡ None
unfolding roles_up_to
none_up_to text = refl

pub some_up_to : (n : ℕ) (text : List ℕ) → roles_up_to (suc n) text ≡ with_written (roles_up_to n) (written_at text)
unfolding roles_up_to
some_up_to n text = refl

up_to_positive : (n : ℕ) (text : List ℕ) → 0 < n → roles_up_to n text ≡ with_written (roles_up_to (n - 1)) (written_at text)
up_to_positive zero text some = absurd (omega arith)
up_to_positive (suc n) text some =
    let same : n ≡ suc n - 1 = omega arith in
    some_up_to n text ∙ ap (λ k. with_written (roles_up_to k) (written_at text)) same

-- these roles, and then those
abbrev put_before : List AuthId → Option (List AuthId) → Option (List AuthId)
put_before front = option_map (λ roles. front ++ roles)

-- after i names these roles are read, and this rest of the text is left
abbrev pub IsReadSoFar : List ℕ → ℕ → List AuthId → List ℕ → Type 0
IsReadSoFar text i roles rest = roles_in text ≡ put_before roles (roles_up_to (4096 - i) rest)

pub read_start : (b : ℕ) (bs : List ℕ) → IsReadSoFar (b ∷ bs) 0 [] (b ∷ bs)
unfolding roles_in
read_start b bs = elim (roles_up_to 4096 (b ∷ bs)) as (λ o. o ≡ put_before [] o) [ None ↦ refl | Some roles ↦ refl ]

pub read_begins : (text : List ℕ) (roles : List AuthId) → eqb (length text) 0 ≡ false → roles ≡ [] → IsReadSoFar text 0 roles text
read_begins [] roles some none = absurd (true≢false some)
read_begins (b ∷ bs) roles some none = subst (λ (rs : List AuthId). IsReadSoFar (b ∷ bs) 0 rs (b ∷ bs)) (sym none) (read_start b bs)

pub read_nothing : roles_in [] ≡ Some []
unfolding roles_in
read_nothing = refl

stop_test : (t : Bool) (more : List ℕ → Option (List AuthId)) (bs : List ℕ) → ◌≡◌ {A = Option (List ℕ)} None (cond t (Some bs) None) → cond t (more bs) None ≡ None
stop_test true more bs e = cc
stop_test false more bs e = refl

behind_none : (more : List ℕ → Option (List AuthId)) (left : List ℕ) → eqb (length left) 0 ≡ false → None ≡ past_mark 44 left → roles_behind more left ≡ None
behind_none more [] some no_comma = absurd (true≢false some)
behind_none more (b ∷ bs) some no_comma = stop_test (eqb b 44) more bs no_comma

more_test : (t : Bool) (more : List ℕ → Option (List AuthId)) (bs rest : List ℕ) → ◌≡◌ {A = Option (List ℕ)} (Some rest) (cond t (Some bs) None) → cond t (more bs) None ≡ more rest
more_test true more bs rest e = let same : bs ≡ rest = cc in ap more same
more_test false more bs rest e = cc

behind_some : (more : List ℕ → Option (List AuthId)) (left rest : List ℕ) → Some rest ≡ past_mark 44 left → roles_behind more left ≡ more rest
behind_some more [] rest comma = cc
behind_some more (b ∷ bs) rest comma = more_test (eqb b 44) more bs rest comma

put_role : (roles : List AuthId) (role : AuthId) (o : Option (List AuthId)) → put_before roles (option_map (λ others. role ∷ others) o) ≡ put_before (roles ++ role ∷ []) o
put_role roles role None = refl
put_role roles role (Some others) = ap Some (sym (append_assoc roles (role ∷ []) others))

module _ (text : List ℕ) (i : ℕ) (roles : List AuthId) (rest : List ℕ) (so_far : IsReadSoFar text i roles rest) where
  step : i < 4096 → (o : Option Written) → o ≡ written_at rest → roles_in text ≡ put_before roles (with_written (roles_up_to (4096 - (i + 1))) o)
  step within o is =
      let less : 4096 - i - 1 ≡ 4096 - (i + 1) = omega arith in
      so_far ∙ ap (put_before roles) (up_to_positive (4096 - i) rest (omega arith) ∙ ap (λ k. with_written (roles_up_to k) (written_at rest)) less ∙ ap (with_written (roles_up_to (4096 - (i + 1)))) (sym is))

  pub read_none : i < 4096 → None ≡ written_at rest → None ≡ roles_in text
  read_none within is = sym (step within None is)

  pub read_all : 4096 ≤ i → None ≡ roles_in text
  read_all all =
      let none : 4096 - i ≡ 0 = omega arith in
      sym (so_far ∙ ap (put_before roles) (ap (λ k. roles_up_to k rest) none ∙ none_up_to rest))

  module _ (name host left : List ℕ) (within : i < 4096) (written : Some (let w : Written = record { name = name; host = host; rest = left } in w) ≡ written_at rest) where
    role_step : (o : Option AuthId) → o ≡ role_of name host → roles_in text ≡ put_before roles (with_role (roles_up_to (4096 - (i + 1))) left o)
    role_step o is = step within _ written ∙ ap (λ r. put_before roles (with_role (roles_up_to (4096 - (i + 1))) left r)) (sym is)

    pub read_no_role : None ≡ role_of name host → None ≡ roles_in text
    read_no_role is = sym (role_step None is)

    pub read_last : (role : AuthId) → Some role ≡ role_of name host → left ≡ [] → Some (roles ++ role ∷ []) ≡ roles_in text
    read_last role is ends =
        sym (role_step (Some role) is ∙ ap (λ l. put_before roles (with_role (roles_up_to (4096 - (i + 1))) l (Some role))) ends)

    pub read_stop : (role : AuthId) → Some role ≡ role_of name host → eqb (length left) 0 ≡ false → None ≡ past_mark 44 left → None ≡ roles_in text
    read_stop role is goes_on no_comma =
        sym (role_step (Some role) is ∙ ap (λ o. put_before roles (option_map (λ others. role ∷ others) o)) (behind_none (roles_up_to (4096 - (i + 1))) left goes_on no_comma))

    pub read_more : (role : AuthId) (more : List ℕ) → Some role ≡ role_of name host → Some more ≡ past_mark 44 left → IsReadSoFar text (i + 1) (roles ++ role ∷ []) more
    read_more role more is comma =
        role_step (Some role) is
        ∙ ap (λ o. put_before roles (option_map (λ others. role ∷ others) o)) (behind_some (roles_up_to (4096 - (i + 1))) left more comma)
        ∙ put_role roles role (roles_up_to (4096 - (i + 1)) more)
