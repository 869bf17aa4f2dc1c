-- What is found at the front of a text is a role with its blanks.
use Rattle.std.proofs.Common.{◌≡◌, ◌≢◌, ℕ, Bool, true, false, cond, eqb, List, [], ◌∷◌, ◌++◌, Option, Some, None, option_and_then, is_none, is_some, refl, sym, subst, ap, ◌∙◌, append_assoc, inl, inr}
use Rattle.std.specs.Cmp.{first_so, second_so}
use Rattle.std.specs.Prelude.{codes}
use Rattle.std.specs.Str.{str_to_ascii_lowercase}
use Rattle.account_match.specs.Form.{form_of}
use Rattle.acl_names.specs.Name.{name_fault}
use Rattle.acl_names.specs.declared.auth.AuthId.{AuthId}
use Rattle.acl_names.specs.declared.refusal.NameRefusal.{NameRefusal}
use Rattle.grant_lex.specs.Value.{value_of}
use Rattle.grant_lex.specs.Class.{is_blank}
use Rattle.grant_words.specs.Names.{is_host, is_role_user, is_some_text}
use Rattle.mandatory_roles.specs.Cutting.{Cut, Written, past_mark, host_at, host_behind, name_at, past_name, with_host, written_at}
use Rattle.mandatory_roles.specs.Roles.{role_from, role_of}
use Rattle.mandatory_roles.specs.Runs.{past_blanks, run_of}
use Rattle.mandatory_roles.specs.Spelling.{AreBlanks, SpellsAccount, SpellsHost, SpellsName, SpellsRole}
use Rattle.mandatory_roles.proofs.Accounts.{both_parts}
use Rattle.mandatory_roles.proofs.Bytes.{is_byte, run_each, run_whole}
use Rattle.mandatory_roles.proofs.Pieces.{IsFound, host_found, name_found}

-- an account with blanks round it, and the rest
pub record IsWrittenAt (text : List ℕ) (w : Written) : Type 0 where
  pub before : List ℕ
  pub inner : List ℕ
  pub padding : List ℕ
  pub whole : text ≡ (before ++ (inner ++ padding)) ++ w.rest
  pub blanks : AreBlanks before × AreBlanks padding
  pub spelled : SpellsAccount inner (value_of w.name) (value_of w.host)

abbrev pub IsWritten : List ℕ → Option Written → Type 0
IsWritten text None = Unit {0}
IsWritten text (Some w) = IsWrittenAt text w

padded_parts : (before inner padding rest : List ℕ) → before ++ (inner ++ (padding ++ rest)) ≡ (before ++ (inner ++ padding)) ++ rest
padded_parts before inner padding rest =
    sym (append_assoc before (inner ++ padding) rest ∙ ap (λ l. before ++ l) (append_assoc inner padding rest))

name_alone : (text before name padding rest : List ℕ) → text ≡ before ++ (name ++ (padding ++ rest)) → AreBlanks before → AreBlanks padding → SpellsName name (value_of name) → IsWrittenAt text (record { name = name; host = codes "%"; rest = rest })
name_alone text before name padding rest whole blanks others named = record {
  before = before;
  inner = name;
  padding = padding;
  whole = whole ∙ padded_parts before name padding rest;
  blanks = (blanks, others);
  spelled = inl (named, refl);
}

module _ (text before name first second : List ℕ) (blanks : AreBlanks before) (firsts : AreBlanks first) (seconds : AreBlanks second) (named : SpellsName name (value_of name)) where
  place_found : (rest : List ℕ) (o : Option Cut) → text ≡ before ++ (name ++ (first ++ (64 ∷ (second ++ rest)))) → IsFound SpellsHost rest o → IsWritten text (with_host name o)
  place_found rest None whole found = tt
  place_found rest (Some cut) whole found =
      let padding : List ℕ = run_of is_blank cut.rest in
      let left : List ℕ = past_blanks cut.rest in
      let inner : rest ≡ cut.front ++ (padding ++ left) = found.whole ∙ ap (λ l. cut.front ++ l) (run_whole is_blank cut.rest) in
      let parts : text ≡ before ++ ((name ++ (first ++ (64 ∷ (second ++ cut.front)))) ++ (padding ++ left)) =
      whole ∙ ap (λ l. before ++ (name ++ (first ++ (64 ∷ (second ++ l))))) inner ∙ ap (λ l. before ++ l) (sym (both_parts name first second cut.front padding left)) in
      record {
        before = before;
        inner = name ++ (first ++ (64 ∷ (second ++ cut.front)));
        padding = padding;
        whole = parts ∙ padded_parts before (name ++ (first ++ (64 ∷ (second ++ cut.front)))) padding left;
        blanks = (blanks, run_each is_blank cut.rest);
        spelled = inr (record { name = name; before = first; behind = second; place = cut.front; whole = refl; named = named; blanks = (firsts, seconds); placed = found.spelled });
      }

module _ (text before name first : List ℕ) (blanks : AreBlanks before) (firsts : AreBlanks first) (named : SpellsName name (value_of name)) where
  at_test : (b : ℕ) (bs : List ℕ) (t : Bool) → eqb b 64 ≡ t → text ≡ before ++ (name ++ (first ++ (b ∷ bs))) → IsWritten text (host_behind name (b ∷ bs) (cond t (Some bs) None))
  at_test b bs true e whole =
      let second : List ℕ = run_of is_blank bs in
      let parts : text ≡ before ++ (name ++ (first ++ (64 ∷ (second ++ past_blanks bs)))) =
      whole ∙ ap (λ k. before ++ (name ++ (first ++ (k ∷ bs)))) (is_byte b 64 e) ∙ ap (λ l. before ++ (name ++ (first ++ (64 ∷ l)))) (run_whole is_blank bs) in
      place_found text before name first second blanks firsts (run_each is_blank bs) named (past_blanks bs) (host_at (past_blanks bs)) parts (host_found (past_blanks bs))
  at_test b bs false e whole = name_alone text before name first (b ∷ bs) whole blanks firsts named

  behind_found : (rest : List ℕ) → text ≡ before ++ (name ++ (first ++ rest)) → IsWritten text (host_behind name rest (past_mark 64 rest))
  behind_found [] whole = name_alone text before name first [] whole blanks firsts named
  behind_found (b ∷ bs) whole = at_test b bs (eqb b 64) refl whole

name_then : (text before rest : List ℕ) (o : Option Cut) → text ≡ before ++ rest → AreBlanks before → IsFound SpellsName rest o → IsWritten text (option_and_then past_name o)
name_then text before rest None whole blanks found = tt
name_then text before rest (Some cut) whole blanks found =
    let parts : text ≡ before ++ (cut.front ++ (run_of is_blank cut.rest ++ past_blanks cut.rest)) =
    whole ∙ ap (λ l. before ++ l) (found.whole ∙ ap (λ l. cut.front ++ l) (run_whole is_blank cut.rest)) in
    behind_found text before cut.front (run_of is_blank cut.rest) blanks (run_each is_blank cut.rest) found.spelled (past_blanks cut.rest) parts

pub written_found : (text : List ℕ) → IsWritten text (written_at text)
unfolding written_at
written_found text =
    name_then text (run_of is_blank text) (past_blanks text) (name_at (past_blanks text)) (run_whole is_blank text) (run_each is_blank text) (name_found (past_blanks text))

-- the rules that a role's two names keep
record KeepsRules (user host : List ℕ) (role : AuthId) : Type 0 where
  user_is : role.user ≡ user
  host_is : role.host ≡ str_to_ascii_lowercase host
  some : user ≢ []
  user_rules : name_fault 32 user ≡ None
  host_rules : name_fault 255 host ≡ None
  comparable : is_some (form_of (str_to_ascii_lowercase host)) ≡ true

none_from : (o : Option NameRefusal) → is_none o ≡ true → o ≡ None
none_from None e = refl
none_from (Some fault) e = cc

not_empty : (text : List ℕ) → is_some_text text ≡ true → text ≢ []
not_empty [] e = λ same. cc
not_empty (b ∷ bs) e = λ same. cc

rules_test : (user host : List ℕ) (role : AuthId) (s t : Bool) → is_role_user user ≡ s → is_host host ≡ t → role_from (cond s (Some user) None) (cond t (Some (str_to_ascii_lowercase host)) None) ≡ Some role → KeepsRules user host role
rules_test user host role true true e f is =
    let made : AuthId = record { user = user; host = str_to_ascii_lowercase host } in
    let same : made ≡ role = cc in
    record {
      user_is = sym (ap (λ r. r.user) same);
      host_is = sym (ap (λ r. r.host) same);
      some = not_empty user (first_so (is_some_text user) (is_none (name_fault 32 user)) e);
      user_rules = none_from _ (second_so (is_some_text user) (is_none (name_fault 32 user)) e);
      host_rules = none_from _ (first_so (is_none (name_fault 255 host)) (is_some (form_of (str_to_ascii_lowercase host))) f);
      comparable = second_so (is_none (name_fault 255 host)) (is_some (form_of (str_to_ascii_lowercase host))) f;
    }
rules_test user host role true false e f is = cc
rules_test user host role false t e f is = cc

pub role_found : (text name place : List ℕ) (role : AuthId) → SpellsAccount text (value_of name) (value_of place) → role_of name place ≡ Some role → SpellsRole text role
role_found text name place role spelled is =
    let rules = rules_test (value_of name) (value_of place) role (is_role_user (value_of name)) (is_host (value_of place)) refl refl is in
    record {
      host = value_of place;
      spelled = subst (λ u. SpellsAccount text u (value_of place)) (sym rules.user_is) spelled;
      lowered = rules.host_is;
      some = λ none. rules.some (sym rules.user_is ∙ none);
      user_rules = ap (name_fault 32) rules.user_is ∙ rules.user_rules;
      host_rules = rules.host_rules;
      comparable = ap (λ l. is_some (form_of l)) rules.host_is ∙ rules.comparable;
    }
