-- Each privilege is read from its name, by a test that computes over all of them.
use Rattle.std.proofs.Common.{◌≡◌, ℕ, ◌<◌, Bool, true, false, List, Ok, Err, Result, refl, ap, sym, subst}
use Rattle.std.proofs.lemmas.Bool.{agree_below_at, eqb-true}
use Rattle.acl_grammar.proofs.Whole.{Right, whole_right}
use Rattle.acl_grammar.specs.Reader.{read_whole}
use Rattle.acl_grammar.specs.Spelling.{spells}
use Rattle.grant_words.specs.Classes.{is}
use Rattle.grant_words.specs.Syntax.{grammar_of}
use Rattle.grant_words.specs.declared.lexeme.Lexeme.{Lexeme}
use Rattle.priv_items.specs.Naming.{is_dynamic, is_plain}
use Rattle.priv_items.specs.declared.item.Item.{Item}
use Rattle.priv_items.specs.declared.item.Item.TheVariants.{Plain, Columns, Dynamic, Usage}
use Rattle.priv_sets.specs.DynamicNames.{dynamic_name, dynamic_names}
use Rattle.priv_sets.specs.PlainNames.{plain_name, plain_names}
use Rattle.privilege_statements.specs.NameTokens.{name_tokens}
use Rattle.privilege_statements.specs.PrivilegeItems.{item, maybe_columns, privilege_item, static_privilege}
use Rattle.privilege_statements.specs.PrivilegeNames.{alter_names, create_names, create_others, drop_names, dynamic_numbers, lone_numbers, other_name, replication_names, show_names, static_name}
use Rattle.privilege_statements.specs.Sanity.{item_sane}

abbrev passes : (Item → Bool) → Result Item (List Lexeme) → Bool
passes test (Ok one) = test one
passes test (Err bad) = false

abbrev reads_plain : ℕ → Bool
reads_plain p = passes (is_plain p) (read_whole (grammar_of item) (name_tokens (plain_name p)))

abbrev reads_dynamic : ℕ → Bool
reads_dynamic p = passes (is_dynamic p) (read_whole (grammar_of item) (name_tokens (dynamic_name p)))

each_plain : (p : ℕ) → p < 31 → reads_plain p ≡ true
unfolding is plain_names dynamic_names lone_numbers dynamic_numbers item privilege_item static_privilege maybe_columns create_others create_names alter_names drop_names show_names replication_names other_name static_name
each_plain p below = agree_below_at reads_plain (λ _. true) 31 p refl below

each_dynamic : (p : ℕ) → p < 20 → reads_dynamic p ≡ true
unfolding is plain_names dynamic_names lone_numbers dynamic_numbers item privilege_item static_privilege maybe_columns create_others create_names alter_names drop_names show_names replication_names other_name static_name
each_dynamic p below = agree_below_at reads_dynamic (λ _. true) 20 p refl below

plain_from : (p : ℕ) (reading : Result Item (List Lexeme)) → passes (is_plain p) reading ≡ true → reading ≡ Ok (Plain p)
plain_from p (Ok (Plain q)) h = ap (λ n. Ok (Plain n)) (sym (eqb-true p q h))
plain_from p (Ok (Columns q columns)) h = cc
plain_from p (Ok (Dynamic q)) h = cc
plain_from p (Ok Usage) h = cc
plain_from p (Err bad) h = cc

dynamic_from : (p : ℕ) (reading : Result Item (List Lexeme)) → passes (is_dynamic p) reading ≡ true → reading ≡ Ok (Dynamic p)
dynamic_from p (Ok (Dynamic q)) h = ap (λ n. Ok (Dynamic n)) (sym (eqb-true p q h))
dynamic_from p (Ok (Columns q columns)) h = cc
dynamic_from p (Ok (Plain q)) h = cc
dynamic_from p (Ok Usage) h = cc
dynamic_from p (Err bad) h = cc

spelled_by : (tokens : List Lexeme) (one : Item) → read_whole (grammar_of item) tokens ≡ Ok one → spells (grammar_of item) tokens one
spelled_by tokens one same = subst (Right (spells (grammar_of item)) tokens) same (whole_right (grammar_of item) item_sane tokens)

pub plain_spelled : (p : ℕ) → p < 31 → spells (grammar_of item) (name_tokens (plain_name p)) (Plain p)
plain_spelled p below = spelled_by (name_tokens (plain_name p)) (Plain p) (plain_from p (read_whole (grammar_of item) (name_tokens (plain_name p))) (each_plain p below))

pub dynamic_spelled : (p : ℕ) → p < 20 → spells (grammar_of item) (name_tokens (dynamic_name p)) (Dynamic p)
dynamic_spelled p below =
    spelled_by (name_tokens (dynamic_name p)) (Dynamic p) (dynamic_from p (read_whole (grammar_of item) (name_tokens (dynamic_name p))) (each_dynamic p below))
