-- The first role of a text is found exactly where one stands.
use Rattle.std.proofs.Common.{◌≡◌, ◌≢◌, ℕ, Bool, true, false, cond, eqb, ◌&&◌, List, [], ◌∷◌, ◌++◌, Some, None, option_and_then, is_none, is_some, refl, sym, subst, ap, ◌∙◌, arith, append_assoc, inl, inr}
use Rattle.std.proofs.lemmas.Bool.Decides.{nat_tests}
use Rattle.std.specs.Prelude.{codes}
use Rattle.std.specs.Str.{str_to_ascii_lowercase}
use Rattle.account_match.specs.Form.{form_of}
use Rattle.acl_names.specs.Name.{name_fault}
use Rattle.acl_names.specs.declared.auth.AuthId.{AuthId}
use Rattle.grant_lex.specs.Value.{value_of}
use Rattle.grant_lex.specs.Class.{is_blank}
use Rattle.mandatory_roles.specs.Cutting.{Written, past_mark, host_at, host_behind, name_at, past_name, with_host, written_at}
use Rattle.mandatory_roles.specs.Roles.{host_of, role_from, role_of, user_of}
use Rattle.mandatory_roles.specs.Runs.{is_host_byte, past_blanks}
use Rattle.mandatory_roles.specs.Spelling.{AreBlanks, SpellsAccount, SpellsHost, SpellsName, SpellsPadded, SpellsRole}
use Rattle.mandatory_roles.proofs.Bytes.{StopsAt, past_exact}
use Rattle.mandatory_roles.proofs.Pieces.{host_begins, host_exact, host_value, is_name_going, name_begins, name_exact, name_value}

-- what may follow a role: nothing, or a comma
abbrev pub IsEnd : List ℕ → Type 0
IsEnd [] = Unit {0}
IsEnd (b ∷ bs) = b ≡ 44

end_stops : (p : ℕ → Bool) (tail : List ℕ) → p 44 ≡ false → IsEnd tail → StopsAt p tail
end_stops p [] comma end = tt
end_stops p (b ∷ bs) comma end = ap p end ∙ comma

-- blanks stop what blanks are none of, and what stops before them
blanks_stop : (p : ℕ → Bool) (blanks tail : List ℕ) → ((b : ℕ) → is_blank b ≡ true → p b ≡ false) → AreBlanks blanks → StopsAt p tail → StopsAt p (blanks ++ tail)
blanks_stop p [] tail apart each stops = stops
blanks_stop p (b ∷ bs) tail apart each stops = apart b each.0

blank_name : (b : ℕ) → is_blank b ≡ true → is_name_going b ≡ false
blank_name b e = grind (arith, nat_tests)

blank_host : (b : ℕ) → is_blank b ≡ true → is_host_byte b ≡ false
blank_host b e = grind (arith, nat_tests)

skip : (blanks tail : List ℕ) → AreBlanks blanks → StopsAt is_blank tail → past_blanks (blanks ++ tail) ≡ tail
skip blanks tail each stops = past_exact is_blank blanks tail each stops

no_at : (tail : List ℕ) → IsEnd tail → past_mark 64 tail ≡ None
no_at [] end = refl
no_at (b ∷ bs) end = ap (λ k. cond (eqb k 64) (Some bs) None) end

-- what is written there stands for this user and this host
pub record Stands (text user host tail : List ℕ) : Type 0 where
  pub name : List ℕ
  pub place : List ℕ
  pub is : written_at text ≡ Some (record { name = name; host = place; rest = tail })
  pub user_is : value_of name ≡ user
  pub host_is : value_of place ≡ host

first_step : (before text : List ℕ) → AreBlanks before → StopsAt is_blank text → written_at (before ++ text) ≡ option_and_then past_name (name_at text)
unfolding written_at
first_step before text each stops = ap (λ l. option_and_then past_name (name_at l)) (skip before text each stops)

alone : (before name user behind' tail : List ℕ) → AreBlanks before → AreBlanks behind' → SpellsName name user → IsEnd tail → Stands (before ++ (name ++ (behind' ++ tail))) user (codes "%") tail
alone before name user behind' tail blanks others named end =
    let after = blanks_stop is_name_going behind' tail blank_name others (end_stops is_name_going tail refl end) in
    let left = skip behind' tail others (end_stops is_blank tail refl end) in
    record {
      name = name;
      place = codes "%";
      is =
          first_step before (name ++ (behind' ++ tail)) blanks (name_begins name user (behind' ++ tail) named)
          ∙ ap (option_and_then past_name) (name_exact name user (behind' ++ tail) named after)
          ∙ ap (λ l. host_behind name l (past_mark 64 l)) left
          ∙ ap (host_behind name tail) (no_at tail end);
      user_is = name_value name user named;
      host_is = refl;
    }

pub both_parts : (name before behind' place padding tail : List ℕ) → (name ++ (before ++ (64 ∷ (behind' ++ place)))) ++ (padding ++ tail) ≡ name ++ (before ++ (64 ∷ (behind' ++ (place ++ (padding ++ tail)))))
both_parts name before behind' place padding tail =
    append_assoc name (before ++ (64 ∷ (behind' ++ place))) (padding ++ tail)
    ∙ ap (λ l. name ++ l) (append_assoc before (64 ∷ (behind' ++ place)) (padding ++ tail) ∙ ap (λ l. before ++ (64 ∷ l)) (append_assoc behind' place (padding ++ tail)))

with_place : (before name user first second place host padding tail : List ℕ) → AreBlanks before → AreBlanks first → AreBlanks second → AreBlanks padding → SpellsName name user → SpellsHost place host → IsEnd tail
    → Stands (before ++ (name ++ (first ++ (64 ∷ (second ++ (place ++ (padding ++ tail))))))) user host tail
with_place before name user first second place host padding tail blanks firsts seconds others named placed end =
    let rest : List ℕ = 64 ∷ (second ++ (place ++ (padding ++ tail))) in
    let after = blanks_stop is_name_going first rest blank_name firsts refl in
    let left = skip first rest firsts refl in
    let behind_host = blanks_stop is_host_byte padding tail blank_host others (end_stops is_host_byte tail refl end) in
    let last = skip padding tail others (end_stops is_blank tail refl end) in
    record {
      name = name;
      place = place;
      is =
          first_step before (name ++ (first ++ rest)) blanks (name_begins name user (first ++ rest) named)
          ∙ ap (option_and_then past_name) (name_exact name user (first ++ rest) named after)
          ∙ ap (λ l. host_behind name l (past_mark 64 l)) left
          ∙ ap (λ l. with_host name (host_at l)) (skip second (place ++ (padding ++ tail)) seconds (host_begins place host (padding ++ tail) placed))
          ∙ ap (with_host name) (host_exact place host (padding ++ tail) placed behind_host)
          ∙ ap (λ l. Some (let w : Written = record { name = name; host = place; rest = l } in w)) last;
      user_is = name_value name user named;
      host_is = host_value place host placed;
    }

account_stands : (before inner user host padding tail : List ℕ) → AreBlanks before → AreBlanks padding → SpellsAccount inner user host → IsEnd tail → Stands (before ++ (inner ++ (padding ++ tail))) user host tail
account_stands before inner user host padding tail blanks others (inl name) end =
    subst (λ h. Stands (before ++ (inner ++ (padding ++ tail))) user h tail) (sym name.1) (alone before inner user padding tail blanks others name.0 end)
account_stands before inner user host padding tail blanks others (inr both) end =
    let parts : inner ++ (padding ++ tail) ≡ both.name ++ (both.before ++ (64 ∷ (both.behind ++ (both.place ++ (padding ++ tail))))) =
    ap (λ l. l ++ (padding ++ tail)) both.whole ∙ both_parts both.name both.before both.behind both.place padding tail in
    subst (λ l. Stands (before ++ l) user host tail) (sym parts)
    (with_place before both.name user both.before both.behind both.place host padding tail blanks both.blanks.0 both.blanks.1 others both.named both.placed end)

pub padded_stands : (text : List ℕ) (role : AuthId) (tail : List ℕ) (padded : SpellsPadded text role) → IsEnd tail → Stands (text ++ tail) role.user padded.spelled.host tail
padded_stands text role tail padded end =
    let parts : text ++ tail ≡ padded.before ++ (padded.inner ++ (padded.behind ++ tail)) =
    ap (λ l. l ++ tail) padded.whole ∙ append_assoc padded.before (padded.inner ++ padded.behind) tail ∙ ap (λ l. padded.before ++ l) (append_assoc padded.inner padded.behind tail) in
    subst (λ l. Stands l role.user padded.spelled.host tail) (sym parts)
    (account_stands padded.before padded.inner role.user padded.spelled.host padded.behind tail padded.blanks.0 padded.blanks.1 padded.spelled.spelled end)

-- the rules of a role's two names
user_kept : (user : List ℕ) → user ≢ [] → name_fault 32 user ≡ None → user_of user ≡ Some user
user_kept [] some rules = absurd (some refl)
user_kept (b ∷ bs) some rules = ap (λ o. cond (is_none o) (Some (b ∷ bs)) None) rules

pattern_kept : (t : Bool) (low : List ℕ) → t ≡ true → cond t (Some low) None ≡ Some low
pattern_kept t low e = ap (λ k. cond k (Some low) None) e

host_kept : (host : List ℕ) → name_fault 255 host ≡ None → is_some (form_of (str_to_ascii_lowercase host)) ≡ true → host_of host ≡ Some (str_to_ascii_lowercase host)
host_kept host rules comparable =
    ap (λ o. cond (is_none o && is_some (form_of (str_to_ascii_lowercase host))) (Some (str_to_ascii_lowercase host)) None) rules
    ∙ pattern_kept (is_some (form_of (str_to_ascii_lowercase host))) (str_to_ascii_lowercase host) comparable

pub role_kept : (text : List ℕ) (role : AuthId) (spelled : SpellsRole text role) (name place : List ℕ) → value_of name ≡ role.user → value_of place ≡ spelled.host → role_of name place ≡ Some role
role_kept text role spelled name place user_is host_is =
    let user : user_of (value_of name) ≡ Some role.user = ap user_of user_is ∙ user_kept role.user spelled.some spelled.user_rules in
    let comparable : is_some (form_of (str_to_ascii_lowercase spelled.host)) ≡ true = ap (λ l. is_some (form_of l)) (sym spelled.lowered) ∙ spelled.comparable in
    let host : host_of (value_of place) ≡ Some role.host = ap host_of host_is ∙ host_kept spelled.host spelled.host_rules comparable ∙ ap Some (sym spelled.lowered) in
    λ i. role_from (user i) (host i)
