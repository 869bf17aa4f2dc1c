-- The list of mandatory roles is read back from its string.
use Rattle.std.proofs.Common.{◌≡◌, ◌≤◌, ℕ, IsTrue, is_some, List, [], ◌∷◌, length, Option, Some, None, refl, sym, ap, subst}
use Rattle.std.specs.List.{AllByRecursion}
use Rattle.acl_grammar.specs.Spelling.{spells}
use Rattle.acl_names.proofs.Lowered.{lowered_name}
use Rattle.acl_names.specs.Name.{IsLowerName}
use Rattle.acl_names.specs.declared.auth.AuthId.{AuthId}
use Rattle.canonical_texts.proofs.Strings.{mandatory_read}
use Rattle.canonical_texts.specs.Quotes.{string_text}
use Rattle.canonical_texts.specs.Tokens.{spaced_mark, string}
use Rattle.grant_words.proofs.Apart.{both_right}
use Rattle.grant_words.specs.Classes.{has_sort, is}
use Rattle.grant_words.specs.Classes.Sort.{string as string_sort}
use Rattle.grant_words.specs.Lexemes.{printed_lexeme}
use Rattle.grant_words.specs.Syntax.{grammar_of}
use Rattle.grant_words.specs.Syntax.Syntax.{after, token}
use Rattle.grant_words.specs.declared.lexeme.Lexeme.{Lexeme}
use Rattle.mandatory_roles.proofs.Lists.{in_found}
use Rattle.mandatory_roles.specs.Roles.{roles_in}
use Rattle.mandatory_roles.specs.Spelling.{SpellsRole, SpellsRoles}
use Rattle.mandatory_roles.specs.Text.{IsRole, roles_text}
use Rattle.user_statements.specs.Statements.{equals, is_role_list, roles_class, roles_of, roles_or_none}

role_is : (text : List ℕ) (v : AuthId) → SpellsRole text v → IsRole v
role_is text v spelled = record {
  some = spelled.some;
  user = spelled.user_rules;
  host = subst (IsLowerName 255) (sym spelled.lowered) (lowered_name 255 spelled.host spelled.host_rules);
  comparable = spelled.comparable;
}

each_role : (text : List ℕ) (vs : List AuthId) → SpellsRoles text vs → AllByRecursion IsRole vs
each_role text [] k = tt
each_role text (v ∷ []) k = (role_is k.inner v k.spelled, tt)
each_role text (v ∷ w ∷ vs) (first, others, cut, k, more) = (role_is k.inner v k.spelled, each_role others (w ∷ vs) more)

-- roles that a list of mandatory roles may have
record AreListed (vs : List AuthId) : Type 0 where
  each : AllByRecursion IsRole vs
  few : length vs ≤ 4096

are_listed : (text : List ℕ) (o : Option (List AuthId)) → roles_in text ≡ o → IsTrue (is_some o) → AreListed (roles_or_none o)
are_listed text None e h = absurd (cc)
are_listed text (Some vs) e h = let found = in_found text vs e in record { each = each_role text vs found.0; few = found.1 }

equals_is : IsTrue (is equals (printed_lexeme (spaced_mark 61)))
unfolding is
equals_is = refl

list_is : (vs : List AuthId) → AreListed vs → IsTrue (is roles_class (printed_lexeme (string (string_text (roles_text vs)))))
unfolding is
list_is vs listed = ap is_some (mandatory_read vs listed.each listed.few)

value_listed : (x : Lexeme) → IsTrue (is roles_class x) → AreListed (roles_of x.value)
unfolding is
value_listed x here = are_listed x.value (roles_in x.value) refl (both_right (has_sort string_sort x.kind x.value) (is_role_list x.value) here)

-- `=` and the string
pub mandatory_again : (x : Lexeme) (vs : List AuthId) → IsTrue (is roles_class x) → vs ≡ roles_of x.value
    → spells (grammar_of (after equals (token roles_class roles_of))) (printed_lexeme (spaced_mark 61) ∷ printed_lexeme (string (string_text (roles_text vs))) ∷ []) vs
mandatory_again x vs here value =
    let listed = subst AreListed (sym value) (value_listed x here) in (
      printed_lexeme (spaced_mark 61),
      printed_lexeme (string (string_text (roles_text vs))) ∷ [],
      equals_is,
      refl,
      (printed_lexeme (string (string_text (roles_text vs))), list_is vs listed, refl, sym (ap roles_or_none (mandatory_read vs listed.each listed.few))),
    )
