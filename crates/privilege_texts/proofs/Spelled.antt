-- The names that tokens spell are within their rules.
use Rattle.std.proofs.Common.{◌≡◌, ◌∙◌, refl, sym, ap, subst, ℕ, ◌==◌, Bool, true, false, ◌&&◌, if◌then◌else◌, List, [], ◌∷◌, ◌++◌, map, inl, inr}
use Rattle.std.proofs.lemmas.Bool.{and_from, and_parts, eq-eqb}
use Rattle.std.proofs.lemmas.List.Folds.{list_all-append}
use Rattle.std.specs.List.{AllByRecursion, list_all}
use Rattle.std.specs.Prelude.{Option, not}
use Rattle.std.specs.Str.{IsUtf8, str_to_ascii_lowercase}
use Rattle.acl_grammar.specs.Spelling.{separated, spells}
use Rattle.acl_names.proofs.Lowered.{ident_fault-lowered}
use Rattle.acl_names.specs.Name.{ident_fault}
use Rattle.acl_names.specs.declared.auth.AuthId.{AuthId}
use Rattle.acl_stmt.specs.declared.columns.ColumnPriv.{ColumnPriv}
use Rattle.acl_stmt.specs.declared.privileges.PrivList.{PrivList}
use Rattle.acl_stmt.specs.declared.target.Target.{Target}
use Rattle.acl_stmt.specs.declared.target.Target.TheVariants as on
use Rattle.canonical_texts.proofs.SpelledAccounts.{account_keeps, none_from}
use Rattle.canonical_texts.specs.Rules.{account_keeps_rules}
use Rattle.grant_words.specs.Classes.{is, is_identifier, no_fault}
use Rattle.grant_words.specs.Lists.{accounts, comma}
use Rattle.grant_words.specs.Names.{account, ident}
use Rattle.grant_words.specs.Syntax.{grammar_of}
use Rattle.grant_words.specs.declared.lexeme.Lexeme.{Lexeme}
use Rattle.priv_items.proofs.EachOnce.{list_all-each_once, list_all-filter}
use Rattle.priv_items.specs.Grants.{without_grant_option}
use Rattle.priv_items.specs.Lowered.{lowered_target}
use Rattle.priv_items.specs.Meaning.{IsMeant, columns_on, names_on}
use Rattle.priv_items.specs.Naming.{columns_in, columns_of, is_plain, items_in}
use Rattle.priv_items.specs.declared.item.Item.{Item}
use Rattle.priv_items.specs.declared.item.Item.TheVariants.{Plain, Columns, Dynamic, Usage}
use Rattle.priv_items.specs.declared.item.Named.{Named}
use Rattle.priv_items.specs.declared.item.Named.TheVariants.{All, Listed}
use Rattle.priv_sets.specs.Levels.{grant_option}
use Rattle.privilege_statements.proofs.Unescaping.{stays_a_name}
use Rattle.privilege_statements.specs.PrivilegeItems.{column_names, item, maybe_columns, maybe_privileges, privilege_item, privileges, static_item, static_privilege}
use Rattle.privilege_statements.specs.Targets.{behind_star, dotted, escaped_target, is_long_schema, long_target, marked_target, on_escaped_schema, schema_target, star_or_table, target}
use Rattle.privilege_texts.specs.Rules.{IsText}
use Rattle.privilege_texts.specs.Rules.{columns_keep_rules, target_keeps_rules}

each_passes : {T A : Type 0} (mark : T → Bool) (P : List T → A → Type 0) (test : A → Bool) → ((us : List T) (v : A) → P us v → test v ≡ true)
    → (ts : List T) (vs : List A) → separated mark P ts vs → list_all test vs ≡ true
each_passes mark P test one ts [] h = absurd h
each_passes mark P test one ts (v ∷ []) h = and_from (test v) true (one ts v h) refl
each_passes mark P test one ts (v ∷ w ∷ vs) (us, t, ws, whole, marked, spelled, more) =
    and_from (test v) (list_all test (w ∷ vs)) (one us v spelled) (each_passes mark P test one ws (w ∷ vs) more)

-- accounts
pub accounts_keep : (ts : List Lexeme) (vs : List AuthId) → spells (grammar_of accounts) ts vs → list_all account_keeps_rules vs ≡ true
unfolding accounts
accounts_keep ts vs spelled = each_passes (is comma) (spells (grammar_of account)) account_keeps_rules account_keeps ts vs spelled

-- identifiers
ident_keeps : (ts : List Lexeme) (text : List ℕ) → spells (grammar_of ident) ts text → is_identifier text ≡ true
unfolding ident is
ident_keeps ts text (t, good, one, same) = ap is_identifier same ∙ (and_parts _ (is_identifier t.value) good).1

lowered_identifier : (text : List ℕ) → is_identifier text ≡ true → is_identifier (str_to_ascii_lowercase text) ≡ true
lowered_identifier text fits = ap no_fault (ident_fault-lowered 64 text (none_from (ident_fault 64 text) fits))

-- columns
abbrev item_keeps : Item → Bool
item_keeps (Columns privilege columns) = list_all is_identifier columns
item_keeps _ = true

columns_keep : (ts : List Lexeme) (columns : List (List ℕ)) → spells (grammar_of column_names) ts columns → list_all is_identifier columns ≡ true
unfolding column_names
columns_keep ts columns (v, (us, ws, whole, listed, end), same) =
    ap (λ names. list_all is_identifier names) same ∙ each_passes (is comma) (spells (grammar_of ident)) is_identifier ident_keeps us v.0 listed

static_keeps : (number : ℕ) (ts : List Lexeme) (columns : Option (List (List ℕ))) → spells (grammar_of maybe_columns) ts columns → item_keeps (static_item number columns) ≡ true
unfolding maybe_columns
static_keeps number ts columns (inl (t, us, good, whole, (names, spelled, same))) = ap (λ o. item_keeps (static_item number o)) same ∙ columns_keep us names spelled
static_keeps number ts columns (inr (none, same)) = ap (λ o. item_keeps (static_item number o)) same

one_item_keeps : (ts : List Lexeme) (one : Item) → spells (grammar_of item) ts one → item_keeps one ≡ true
unfolding item privilege_item static_privilege
one_item_keeps ts one (inl (t, us, good, whole, (none, same))) = ap item_keeps same
one_item_keeps ts one (inr (inl (t, us, good, whole, (t', ws, good', whole', (none, same))))) = ap item_keeps same
one_item_keeps ts one (inr (inr (inl (number, spelled, same)))) = ap item_keeps same
one_item_keeps ts one (inr (inr (inr (v, (us, ws, whole, named, columns), same)))) = ap item_keeps same ∙ static_keeps v.0 ws v.1 columns

abbrev items_keep : Named → Bool
items_keep named = list_all item_keeps (items_in named)

privileges_keep : (ts : List Lexeme) (named : Named) → spells (grammar_of privileges) ts named → items_keep named ≡ true
unfolding privileges maybe_privileges
privileges_keep ts named (inl (t, us, good, whole, inl (t', ws, good', whole', (none, same)))) = ap items_keep same
privileges_keep ts named (inl (t, us, good, whole, inr (none, same))) = ap items_keep same
privileges_keep ts named (inr (items, listed, same)) =
    ap items_keep same ∙ each_passes (is comma) (spells (grammar_of item)) item_keeps one_item_keeps ts items listed

lowered_all : (names : List (List ℕ)) → list_all is_identifier names ≡ true → list_all is_identifier (map str_to_ascii_lowercase names) ≡ true
lowered_all [] keep = refl
lowered_all (text ∷ names) keep =
    let parts = and_parts (is_identifier text) (list_all is_identifier names) keep in
    and_from (is_identifier (str_to_ascii_lowercase text)) (list_all is_identifier (map str_to_ascii_lowercase names)) (lowered_identifier text parts.0) (lowered_all names parts.1)

columns_in_keep : (q : ℕ) (one : Item) → item_keeps one ≡ true → list_all is_identifier (columns_in q one) ≡ true
columns_in_keep q (Plain privilege) keep = refl
columns_in_keep q (Columns privilege columns) keep =
    elim (q == privilege) as (λ t. list_all is_identifier (if t then map str_to_ascii_lowercase columns else []) ≡ true) [ true ↦ lowered_all columns keep | false ↦ refl ]
columns_in_keep q (Dynamic privilege) keep = refl
columns_in_keep q Usage keep = refl

columns_of_keep : (items : List Item) (q : ℕ) → list_all item_keeps items ≡ true → list_all is_identifier (columns_of items q) ≡ true
columns_of_keep [] q keep = refl
columns_of_keep (one ∷ items) q keep =
    let parts = and_parts (item_keeps one) (list_all item_keeps items) keep in
    list_all-append is_identifier (columns_in q one) (columns_of items q)
    ∙ and_from (list_all is_identifier (columns_in q one)) (list_all is_identifier (columns_of items q)) (columns_in_keep q one parts.0) (columns_of_keep items q parts.1)

lists_keep : (lists : List ColumnPriv) → ((q : ℕ) → list_all is_identifier (columns_on lists q) ≡ true) → list_all columns_keep_rules lists ≡ true
lists_keep [] keep = refl
lists_keep (x ∷ xs) keep =
    let parts = λ (q : ℕ). and_parts (list_all is_identifier (names_on q x)) (list_all is_identifier (columns_on xs q)) (sym (list_all-append is_identifier (names_on q x) (columns_on xs q)) ∙ keep q) in
    and_from (columns_keep_rules x) (list_all columns_keep_rules xs)
    (sym (λ i. list_all is_identifier (if eq-eqb x.privilege x.privilege refl i then x.names else [])) ∙ (parts x.privilege).0)
    (lists_keep xs (λ q. (parts q).1))

meant_keeps : (named : Named) (list : PrivList) → IsMeant named list → items_keep named ≡ true → list_all columns_keep_rules list.columns ≡ true
meant_keeps named list meant keep =
    lists_keep list.columns
    (λ q. ap (λ names. list_all is_identifier names) (meant.columns q) ∙ list_all-each_once is_identifier (columns_of (items_in named) q) (columns_of_keep (items_in named) q keep))

without_keeps : (named : Named) → items_keep named ≡ true → items_keep (without_grant_option named) ≡ true
without_keeps All keep = keep
without_keeps (Listed items) keep = list_all-filter item_keeps (λ one. not (is_plain grant_option one)) items keep

pub revoked_columns_keep : (ts : List Lexeme) (named : Named) (list : PrivList) → spells (grammar_of privileges) ts named → IsMeant named list → list_all columns_keep_rules list.columns ≡ true
revoked_columns_keep ts named list spelled meant = meant_keeps named list meant (privileges_keep ts named spelled)

pub granted_columns_keep : (ts : List Lexeme) (named : Named) (list : PrivList) → spells (grammar_of privileges) ts named → IsMeant (without_grant_option named) list
    → list_all columns_keep_rules list.columns ≡ true
granted_columns_keep ts named list spelled meant = meant_keeps (without_grant_option named) list meant (without_keeps named (privileges_keep ts named spelled))

-- targets
pub all_front : {A : Type 0} (P : A → Type 0) (xs ys : List A) → AllByRecursion P (xs ++ ys) → AllByRecursion P xs
all_front P [] ys each = tt
all_front P (x ∷ xs) ys each = (each.0, all_front P xs ys each.1)

pub all_back : {A : Type 0} (P : A → Type 0) (xs ys : List A) → AllByRecursion P (xs ++ ys) → AllByRecursion P ys
all_back P [] ys each = each
all_back P (x ∷ xs) ys each = all_back P xs ys each.1

dotted_keeps : (ts : List Lexeme) (v : List ℕ × List ℕ) → spells (grammar_of dotted) ts v → (is_identifier v.0 && is_identifier v.1) ≡ true
unfolding dotted
dotted_keeps ts v (us, ws, whole, schema, (t, xs, good, cut, named)) =
    and_from (is_identifier v.0) (is_identifier v.1) (ident_keeps us v.0 schema) (ident_keeps xs v.1 named)

marked_keeps : (ts : List Lexeme) (v : Target) → spells (grammar_of marked_target) ts v → target_keeps_rules v ≡ true
unfolding marked_target behind_star
marked_keeps ts v (inl (t, us, good, cut, (t', us', good', cut', (t'', us'', good'', cut'', (none, same))))) = ap target_keeps_rules same
marked_keeps ts v (inr (inl (t, us, good, cut, (names, spelled, same)))) = ap target_keeps_rules same ∙ dotted_keeps us names spelled
marked_keeps ts v (inr (inr (inl (t, us, good, cut, (names, spelled, same))))) = ap target_keeps_rules same ∙ dotted_keeps us names spelled
marked_keeps ts v (inr (inr (inr (t, us, good, cut, (names, spelled, same))))) = ap target_keeps_rules same ∙ dotted_keeps us names spelled

ident_is_text : (ts : List Lexeme) (text : List ℕ) → AllByRecursion IsText ts → spells (grammar_of ident) ts text → IsUtf8 text
unfolding ident
ident_is_text ts text each (t, good, one, same) = subst IsUtf8 (sym same) (subst (AllByRecursion IsText) one each).0

star_keeps : (schema : List ℕ) (ts : List Lexeme) (table : Option (List ℕ)) → IsUtf8 schema → is_identifier schema ≡ true → spells (grammar_of star_or_table) ts table
    → target_keeps_rules (on_escaped_schema schema table) ≡ true
unfolding star_or_table
star_keeps schema ts table utf8 fits (inl (t, us, good, cut, (none, same))) =
    ap (λ o. target_keeps_rules (on_escaped_schema schema o)) same ∙ ap no_fault (stays_a_name schema utf8 (none_from (ident_fault 64 schema) fits))
star_keeps schema ts table utf8 fits (inr (text, spelled, same)) =
    ap (λ o. target_keeps_rules (on_escaped_schema schema o)) same ∙ and_from (is_identifier schema) (is_identifier text) fits (ident_keeps ts text spelled)

schema_keeps : (ts : List Lexeme) (v : Target) → AllByRecursion IsText ts → spells (grammar_of schema_target) ts v → target_keeps_rules v ≡ true
unfolding schema_target escaped_target long_target is
schema_keeps ts v each (inl (names, (us, ws, whole, schema, (t, xs, good, cut, table)), same)) =
    let front : AllByRecursion IsText us = all_front IsText us ws (subst (AllByRecursion IsText) whole each) in
    ap target_keeps_rules same ∙ star_keeps names.0 xs names.1 (ident_is_text us names.0 front schema) (ident_keeps us names.0 schema) table
schema_keeps ts v each (inr (names, (us, ws, whole, (t, good, one, same_name), more), same)) =
    ap target_keeps_rules same ∙ ap is_identifier same_name ∙ (and_parts _ (is_long_schema t.value) good).1

target_keeps : (ts : List Lexeme) (v : Target) → AllByRecursion IsText ts → spells (grammar_of target) ts v → target_keeps_rules v ≡ true
unfolding target
target_keeps ts v each (inl spelled) = marked_keeps ts v spelled
target_keeps ts v each (inr spelled) = schema_keeps ts v each spelled

lowered_keeps : (v : Target) → target_keeps_rules v ≡ true → target_keeps_rules (lowered_target v) ≡ true
lowered_keeps on.Global keeps = keeps
lowered_keeps (on.Schema schema) keeps = keeps
lowered_keeps (on.Table schema table) keeps = keeps
lowered_keeps (on.Function schema routine) keeps =
    let parts = and_parts (is_identifier schema) (is_identifier routine) keeps in
    and_from (is_identifier schema) (is_identifier (str_to_ascii_lowercase routine)) parts.0 (lowered_identifier routine parts.1)
lowered_keeps (on.Procedure schema routine) keeps =
    let parts = and_parts (is_identifier schema) (is_identifier routine) keeps in
    and_from (is_identifier schema) (is_identifier (str_to_ascii_lowercase routine)) parts.0 (lowered_identifier routine parts.1)

pub meant_target_keeps : (ts : List Lexeme) (v : Target) → AllByRecursion IsText ts → spells (grammar_of target) ts v → target_keeps_rules (lowered_target v) ≡ true
meant_target_keeps ts v each spelled = lowered_keeps v (target_keeps ts v each spelled)
