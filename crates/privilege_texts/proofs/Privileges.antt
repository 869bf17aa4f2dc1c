-- Lists of privileges: ALL, USAGE, or the items in their order.
use Rattle.std.proofs.Common.{◌≡◌, ◌∙◌, refl, ℕ, zero, suc, ◌<◌, ◌==◌, Bool, true, false, if◌then◌else◌, List, [], ◌∷◌, ◌++◌, inl, inr, arith}
use Rattle.std.proofs.lemmas.Bool.{and_parts}
use Rattle.std.specs.Int.{bit_at}
use Rattle.std.specs.List.{flat_map, list_all}
use Rattle.std.specs.Prelude.{codes}
use Rattle.acl_grammar.specs.Spelling.{separated, spells}
use Rattle.acl_stmt.specs.declared.columns.ColumnPriv.{ColumnPriv}
use Rattle.acl_stmt.specs.declared.privileges.PrivList.{PrivList}
use Rattle.canonical_texts.specs.Tokens.{columns_item_tokens, item_tokens, list_tokens, privileges_tokens, same_tokens, word, words_of}
use Rattle.grant_lex.specs.Printed.{Printed}
use Rattle.grant_words.specs.Classes.{is}
use Rattle.grant_words.specs.Lexemes.{printed_lexeme, printed_lexemes}
use Rattle.grant_words.specs.Lists.{comma}
use Rattle.grant_words.specs.Syntax.{grammar_of}
use Rattle.priv_items.specs.Canonical.{columns_at, dynamic_at, each_below, held_by, item_itself, items_of, member_if, or_usage, static_at}
use Rattle.priv_items.specs.declared.item.Item.{Item}
use Rattle.priv_items.specs.declared.item.Item.TheVariants.{Plain, Columns, Dynamic}
use Rattle.priv_items.specs.declared.item.Named.TheVariants.{All, Listed}
use Rattle.priv_sets.specs.DynamicNames.{dynamic_name}
use Rattle.priv_sets.specs.PlainNames.{plain_name}
use Rattle.priv_sets.specs.StaticSet.{holds}
use Rattle.privilege_statements.specs.PrivilegeItems.{item, maybe_privileges, privileges}
use Rattle.privilege_texts.proofs.Items.{columns_item, dynamic_item, plain_item, usage_item}
use Rattle.privilege_texts.proofs.Members.{EachSpells, each_append, list_spelled}
use Rattle.privilege_texts.specs.Rules.{columns_keep_rules}

-- the tokens of one item
abbrev IsItem : List Printed → Item → Type 0
IsItem tokens one = spells (grammar_of item) (printed_lexemes (same_tokens tokens)) one

abbrev AreItems : List (List Printed) → List Item → Type 0
AreItems = EachSpells IsItem

one_if : (given : Bool) (tokens : List Printed) (one : Item) → IsItem tokens one → AreItems (member_if given tokens) (member_if given one)
one_if true tokens one h = (h, tt)
one_if false tokens one h = tt

below_spelled : (limit : ℕ) (tokens_at : ℕ → List (List Printed)) (items_at : ℕ → List Item) → ((n : ℕ) → n < limit → AreItems (tokens_at n) (items_at n))
    → AreItems (each_below limit tokens_at) (each_below limit items_at)
unfolding each_below
below_spelled zero tokens_at items_at each = tt
below_spelled (suc limit) tokens_at items_at each =
    each_append IsItem (each_below limit tokens_at) (tokens_at limit) (each_below limit items_at) (items_at limit)
    (below_spelled limit tokens_at items_at (λ n less. each n (omega arith))) (each limit (omega arith))

columns_at_spelled : (n : ℕ) (lists : List ColumnPriv) → list_all columns_keep_rules lists ≡ true → AreItems (flat_map (columns_at item_tokens n) lists) (flat_map (columns_at item_itself n) lists)
columns_at_spelled n [] keep = tt
columns_at_spelled n (listed ∷ lists) keep =
    let parts = and_parts (columns_keep_rules listed) (list_all columns_keep_rules lists) keep in
    let one = one_if (n == listed.privilege) (columns_item_tokens listed) (Columns listed.privilege listed.names) (columns_item listed parts.0) in
    each_append IsItem (columns_at item_tokens n listed) (flat_map (columns_at item_tokens n) lists) (columns_at item_itself n listed) (flat_map (columns_at item_itself n) lists)
    one
    (columns_at_spelled n lists parts.1)

static_spelled : (list : PrivList) (n : ℕ) → list_all columns_keep_rules list.columns ≡ true → n < 31 → AreItems (static_at item_tokens list n) (static_at item_itself list n)
static_spelled list n keep below =
    each_append IsItem (member_if (holds list.plain n) (words_of (plain_name n))) (flat_map (columns_at item_tokens n) list.columns)
    (member_if (holds list.plain n) (Plain n)) (flat_map (columns_at item_itself n) list.columns)
    (one_if (holds list.plain n) (words_of (plain_name n)) (Plain n) (plain_item n below)) (columns_at_spelled n list.columns keep)

items_spelled : (list : PrivList) → list_all columns_keep_rules list.columns ≡ true
    → AreItems (held_by item_tokens list) (held_by item_itself list)
items_spelled list keep =
    each_append IsItem (each_below 31 (static_at item_tokens list)) (each_below 20 (dynamic_at item_tokens list.dynamic))
    (each_below 31 (static_at item_itself list)) (each_below 20 (dynamic_at item_itself list.dynamic))
    (below_spelled 31 (static_at item_tokens list) (static_at item_itself list) (λ n below. static_spelled list n keep below))
    (below_spelled 20 (dynamic_at item_tokens list.dynamic) (dynamic_at item_itself list.dynamic)
    (λ n below. one_if (bit_at list.dynamic n == 1) (words_of (dynamic_name n)) (Dynamic n) (dynamic_item n below)))

listed_spelled : (tokens : List (List Printed)) (items : List Item) → AreItems tokens items
    → separated (is comma) (spells (grammar_of item)) (printed_lexemes (list_tokens same_tokens (or_usage item_tokens tokens))) (or_usage item_itself items)
listed_spelled [] [] each = usage_item
listed_spelled [] (one ∷ items) each = absurd each
listed_spelled (first ∷ tokens) [] each = absurd each
listed_spelled (first ∷ tokens) (one ∷ items) each = list_spelled same_tokens (spells (grammar_of item)) first tokens one items each

all_or_listed : (all : Bool) (tokens : List (List Printed)) (items : List Item) → AreItems tokens items
    → spells (grammar_of privileges) (printed_lexemes (if all then word (codes "ALL") ∷ [] else list_tokens same_tokens (or_usage item_tokens tokens))) (if all then All else Listed (or_usage item_itself items))
unfolding privileges maybe_privileges is
all_or_listed true tokens items each = inl (printed_lexeme (word (codes "ALL")), [], refl, refl, inr (refl, refl))
all_or_listed false tokens items each = inr (or_usage item_itself items, listed_spelled tokens items each, refl)

pub privileges_spelled : (list : PrivList) → list_all columns_keep_rules list.columns ≡ true → spells (grammar_of privileges) (printed_lexemes (privileges_tokens list)) (items_of list)
privileges_spelled list keep =
    all_or_listed list.all (held_by item_tokens list) (held_by item_itself list) (items_spelled list keep)
