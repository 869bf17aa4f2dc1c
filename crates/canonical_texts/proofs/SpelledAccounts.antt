-- Accounts that tokens spell are within their rules, and those within them are spelled by the tokens that are written for them.
use Rattle.std.proofs.Common.{◌≡◌, ◌∙◌, refl, sym, ap, true, ◌&&◌, ℕ, List, [], ◌∷◌, inl, inr}
use Rattle.std.proofs.lemmas.Bool.{and_from, and_parts}
use Rattle.std.specs.Prelude.{Option, Some, None}
use Rattle.std.specs.Str.{chars, str_to_ascii_lowercase}
use Rattle.account_match.specs.Form.{form_of}
use Rattle.acl_grammar.specs.Spelling.{spells}
use Rattle.acl_names.proofs.LowerTexts.{lowered_is_lower}
use Rattle.acl_names.proofs.Lowered.{lowered-lowered, lowered_name}
use Rattle.acl_names.proofs.SameAuth.{equal_from_text_eq}
use Rattle.acl_names.specs.Name.{name_fault}
use Rattle.acl_names.specs.Text.{is_lower}
use Rattle.acl_names.specs.declared.auth.AuthId.{AuthId}
use Rattle.grant_words.specs.Classes.{is, no_fault}
use Rattle.grant_words.specs.Lexemes.{printed_lexeme, printed_lexemes}
use Rattle.grant_words.specs.Names.{account, at_host, is_host, is_some, is_user}
use Rattle.grant_words.specs.Syntax.{grammar_of}
use Rattle.grant_words.specs.declared.lexeme.Lexeme.{Lexeme}
use Rattle.mandatory_roles.proofs.Names.{value_quoted}
use Rattle.canonical_texts.specs.Rules.{account_keeps_rules}
use Rattle.canonical_texts.specs.Tokens.{account_tokens, mark, name, spaced_name}

pub none_from : {A : Type 0} (fault : Option A) → no_fault fault ≡ true → fault ≡ None
none_from None none = refl
none_from (Some x) none = cc

lowered_host : (text : List ℕ) → is_host text ≡ true → is_host (str_to_ascii_lowercase text) ≡ true
lowered_host text fits =
    let parts = and_parts (no_fault (name_fault 255 text)) (is_some (form_of (str_to_ascii_lowercase text))) fits in
    and_from (no_fault (name_fault 255 (str_to_ascii_lowercase text))) (is_some (form_of (str_to_ascii_lowercase (str_to_ascii_lowercase text))))
    (ap no_fault (lowered_name 255 text (none_from (name_fault 255 text) parts.0)).faultless)
    (ap (λ lower. is_some (form_of lower)) (lowered-lowered text) ∙ parts.1)

pub host_keeps : (ts : List Lexeme) (host : List ℕ) → spells (grammar_of at_host) ts host → (is_host host ≡ true) × (is_lower host ≡ true)
unfolding at_host is chars form_of
host_keeps ts host (inl (t, us, fits, cut, (h, good, one, same))) = (
  ap is_host same ∙ lowered_host h.value (and_parts _ (is_host h.value) good).1,
  ap is_lower same ∙ lowered_is_lower h.value,
)
host_keeps ts host (inr (none, same)) = (ap is_host same, ap is_lower same)

pub account_keeps : (ts : List Lexeme) (v : AuthId) → spells (grammar_of account) ts v → account_keeps_rules v ≡ true
unfolding account is
account_keeps ts v (names, (us, ws, whole, (t, good, one, same_user), host), same) =
    let user : is_user names.0 ≡ true = ap is_user same_user ∙ (and_parts _ (is_user t.value) good).1 in
    let rest = host_keeps ws names.1 host in
    ap account_keeps_rules same ∙ and_from (is_user names.0 && is_host names.1) (is_lower names.1) (and_from (is_user names.0) (is_host names.1) user rest.0) rest.1

-- `@` and the host
pub host_spelled : (host : List ℕ) → is_host host ≡ true → is_lower host ≡ true
    → spells (grammar_of at_host) (printed_lexeme (mark 64) ∷ printed_lexeme (name host) ∷ []) host
unfolding at_host is
host_spelled host fits lower =
    inl (
      printed_lexeme (mark 64),
      printed_lexeme (name host) ∷ [],
      refl,
      refl,
      (
        printed_lexeme (name host),
        ap is_host (value_quoted host) ∙ fits,
        refl,
        sym (ap str_to_ascii_lowercase (value_quoted host) ∙ equal_from_text_eq (str_to_ascii_lowercase host) host lower),
      ),
    )

pub account_spelled : (one : AuthId) → account_keeps_rules one ≡ true → spells (grammar_of account) (printed_lexemes (account_tokens one)) one
unfolding account is
account_spelled one keeps =
    let outer = and_parts (is_user one.user && is_host one.host) (is_lower one.host) keeps in
    let inner = and_parts (is_user one.user) (is_host one.host) outer.0 in (
      (one.user, one.host),
      (
        printed_lexeme (spaced_name one.user) ∷ [],
        printed_lexeme (mark 64) ∷ printed_lexeme (name one.host) ∷ [],
        refl,
        (printed_lexeme (spaced_name one.user), ap is_user (value_quoted one.user) ∙ inner.0, refl, sym (value_quoted one.user)),
        host_spelled one.host inner.1 outer.1,
      ),
      refl,
    )
