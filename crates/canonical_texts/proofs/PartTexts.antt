-- What the tokens of the parts of statements print.
use Rattle.std.proofs.Common.{◌≡◌, ℕ, zero, suc, Bool, true, false, cond, eqb, List, [], ◌∷◌, ◌++◌, map, Option, Some, None, refl, sym, ap, ◌∙◌, append_assoc, append-nil}
use Rattle.std.proofs.lemmas.List.{map-append}
use Rattle.std.specs.Int.{bit_at}
use Rattle.std.specs.List.{flat_map}
use Rattle.std.specs.Prelude.{codes, decimal}
use Rattle.acl_names.specs.AuthId.{auth_text}
use Rattle.acl_names.specs.Quoted.{quoted}
use Rattle.acl_names.specs.declared.auth.AuthId.{AuthId}
use Rattle.acl_names.specs.declared.policy.LockTime.{LockTime}
use Rattle.acl_names.specs.declared.policy.LockTime.TheVariants.{Days, Unbounded}
use Rattle.acl_names.specs.declared.policy.Verifier.{Verifier}
use Rattle.acl_stmt.specs.declared.columns.ColumnPriv.{ColumnPriv}
use Rattle.acl_stmt.specs.declared.options.AccountOptions.{AccountOptions}
use Rattle.acl_stmt.specs.declared.privileges.PrivList.{PrivList}
use Rattle.acl_stmt.specs.declared.target.Target.{Target}
use Rattle.acl_stmt.specs.declared.target.Target.TheVariants as on
use Rattle.grant_lex.specs.Printed.{Printed, printed}
use Rattle.mandatory_roles.proofs.Bytes.{is_byte}
use Rattle.priv_items.specs.Canonical.{columns_at, dynamic_at, each_below, held_by, listed_by, member_if, or_usage, static_at}
use Rattle.priv_sets.specs.DynamicNames.{dynamic_name}
use Rattle.priv_sets.specs.PlainNames.{plain_name}
use Rattle.priv_sets.specs.StaticSet.{holds}
use Rattle.canonical_texts.specs.Lists.{list_text, text_if}
use Rattle.canonical_texts.specs.Privileges.{columns_item, item_text, privileges_text, same_text}
use Rattle.canonical_texts.specs.Texts.{accounts_text, altered_text, attempts_text, days_text, locked_text, members_text, new_text, options_text, password_text, renamed_text, target_text}
use Rattle.canonical_texts.specs.Tokens.{account_tokens, accounts_tokens, altered_tokens, attempts_tokens, byte_onto, column_tokens, columns_item_tokens, days_tokens, digits_token, item_tokens, list_tokens, locked_tokens, mark, new_tokens, options_tokens, parts_of, password_tokens, privileges_tokens, renamed_tokens, same_tokens, spaced_name, target_tokens, tokens_if, word, words_of}
use Rattle.canonical_texts.proofs.Members.{below_none, below_suc}

pub printed-append : (xs ys : List Printed) → printed (xs ++ ys) ≡ printed xs ++ printed ys
printed-append [] ys = refl
printed-append (p ∷ xs) ys =
    ap (λ l. p.blanks ++ (p.text ++ l)) (printed-append xs ys)
    ∙ ap (λ l. p.blanks ++ l) (sym (append_assoc p.text (printed xs) (printed ys)))
    ∙ sym (append_assoc p.blanks (p.text ++ printed xs) (printed ys))

-- words print the text with a space before it
onto_text : (b : ℕ) (parts : List (List ℕ)) (text : List ℕ) → printed (map word parts) ≡ 32 ∷ text → printed (map word (byte_onto b parts)) ≡ 32 ∷ b ∷ text
onto_text b [] text e = cc
onto_text b (part ∷ parts) text e = let inner : part ++ printed (map word parts) ≡ text = cc in ap (λ l. 32 ∷ b ∷ l) inner

parts_test : (b : ℕ) (bs : List ℕ) (t : Bool) → eqb b 32 ≡ t → printed (map word (parts_of bs)) ≡ 32 ∷ bs → printed (map word (cond t ([] ∷ parts_of bs) (byte_onto b (parts_of bs)))) ≡ 32 ∷ b ∷ bs
parts_test b bs true e is = ap (λ l. 32 ∷ l) is ∙ ap (λ k. 32 ∷ k ∷ bs) (sym (is_byte b 32 e))
parts_test b bs false e is = onto_text b (parts_of bs) bs is

parts_text : (text : List ℕ) → printed (map word (parts_of text)) ≡ 32 ∷ text
parts_text [] = refl
parts_text (b ∷ bs) = parts_test b bs (eqb b 32) refl (parts_text bs)

pub words_text : (text : List ℕ) → printed (words_of text) ≡ codes " " ++ text
unfolding words_of
words_text text = parts_text text

pub account_text : (account : AuthId) → printed (account_tokens account) ≡ codes " " ++ auth_text account
account_text account =
    ap (λ l. 32 ∷ l) (ap (λ l. quoted account.user ++ (64 ∷ l)) (append-nil (quoted account.host)) ∙ sym (append_assoc (quoted account.user) (codes "@") (quoted account.host)))

-- lists, where each member begins with a space
others_print : {A : Type 0} (print : A → List Printed) (text : A → List ℕ) → ((x : A) → printed (print x) ≡ codes " " ++ text x) → (xs : List A)
    → printed (flat_map (λ other. mark 44 ∷ print other) xs) ≡ flat_map (λ other. codes ", " ++ text other) xs
others_print print text each [] = refl
others_print print text each (x ∷ xs) =
    ap (λ l. 44 ∷ l) (printed-append (print x) (flat_map (λ other. mark 44 ∷ print other) xs) ∙ ap (λ l. l ++ printed (flat_map (λ other. mark 44 ∷ print other) xs)) (each x) ∙ ap (λ l. (codes " " ++ text x) ++ l) (others_print print text each xs))

pub list_print : {A : Type 0} (print : A → List Printed) (text : A → List ℕ) → ((x : A) → printed (print x) ≡ codes " " ++ text x) → (xs : List A) → printed (list_tokens print xs) ≡ members_text text xs
list_print print text each [] = refl
list_print print text each (x ∷ xs) =
    printed-append (print x) (flat_map (λ other. mark 44 ∷ print other) xs)
    ∙ ap (λ l. l ++ printed (flat_map (λ other. mark 44 ∷ print other) xs)) (each x)
    ∙ ap (λ l. (codes " " ++ text x) ++ l) (others_print print text each xs)

pub accounts_print : (accounts : List AuthId) → printed (accounts_tokens accounts) ≡ accounts_text accounts
accounts_print accounts = list_print account_tokens auth_text account_text accounts

pub if_print : (test : Bool) (tokens : List Printed) (text : List ℕ) → printed tokens ≡ text → printed (tokens_if test tokens) ≡ text_if test text
if_print true tokens text e = e
if_print false tokens text e = refl

password_print : (verifier : Verifier) → printed (password_tokens verifier) ≡ password_text verifier
password_print verifier =
    printed-append (words_of (codes "IDENTIFIED BY VERIFIER")) (digits_token verifier ∷ [])
    ∙ ap (λ l. l ++ printed (digits_token verifier ∷ [])) (words_text (codes "IDENTIFIED BY VERIFIER"))
    ∙ ap (λ l. codes " IDENTIFIED BY VERIFIER" ++ (32 ∷ l)) (append-nil _)

pub new_print : (made : AuthId × Verifier) → printed (new_tokens made) ≡ codes " " ++ new_text made
new_print (account, verifier) =
    printed-append (account_tokens account) (password_tokens verifier)
    ∙ ap (λ l. l ++ printed (password_tokens verifier)) (account_text account)
    ∙ ap (λ l. (codes " " ++ auth_text account) ++ l) (password_print verifier)

pub altered_print : (altered : AuthId × Option Verifier) → printed (altered_tokens altered) ≡ codes " " ++ altered_text altered
altered_print (account, None) = account_text account
altered_print (account, Some verifier) = new_print (account, verifier)

pub renamed_print : (pair : AuthId × AuthId) → printed (renamed_tokens pair) ≡ codes " " ++ renamed_text pair
renamed_print (old, new_name) =
    printed-append (account_tokens old) (word (codes "TO") ∷ account_tokens new_name)
    ∙ ap (λ l. l ++ printed (word (codes "TO") ∷ account_tokens new_name)) (account_text old)
    ∙ ap (λ l. (codes " " ++ auth_text old) ++ (codes " TO" ++ l)) (account_text new_name)

attempts_print : (attempts : Option ℕ) → printed (attempts_tokens attempts) ≡ attempts_text attempts
attempts_print None = refl
attempts_print (Some attempts) = ap (λ l. codes " FAILED_LOGIN_ATTEMPTS " ++ l) (append-nil (decimal attempts))

days_print : (days : Option LockTime) → printed (days_tokens days) ≡ days_text days
unfolding words_of
days_print None = refl
days_print (Some (Days days)) = ap (λ l. codes " PASSWORD_LOCK_TIME " ++ l) (append-nil (decimal days))
days_print (Some Unbounded) = refl

locked_print : (locked : Option Bool) → printed (locked_tokens locked) ≡ locked_text locked
unfolding words_of
locked_print None = refl
locked_print (Some true) = refl
locked_print (Some false) = refl

pub options_print : (options : AccountOptions) → printed (options_tokens options) ≡ options_text options
options_print options =
    printed-append (attempts_tokens options.attempts) (days_tokens options.days ++ locked_tokens options.locked)
    ∙ ap (λ l. l ++ printed (days_tokens options.days ++ locked_tokens options.locked)) (attempts_print options.attempts)
    ∙ ap (λ l. attempts_text options.attempts ++ l)
    (printed-append (days_tokens options.days) (locked_tokens options.locked)
    ∙ ap (λ l. l ++ printed (locked_tokens options.locked)) (days_print options.days)
    ∙ ap (λ l. days_text options.days ++ l) (locked_print options.locked))

pair_print : (schema item : List ℕ) → quoted schema ++ (46 ∷ (quoted item ++ [])) ≡ quoted schema ++ (codes "." ++ quoted item)
pair_print schema item = ap (λ l. quoted schema ++ (46 ∷ l)) (append-nil (quoted item))

pub target_print : (target : Target) → printed (target_tokens target) ≡ target_text target
target_print on.Global = refl
target_print (on.Schema schema) = refl
target_print (on.Table schema table) = ap (λ l. codes " " ++ l) (pair_print schema table)
target_print (on.Function schema routine) = ap (λ l. codes " FUNCTION " ++ l) (pair_print schema routine)
target_print (on.Procedure schema routine) = ap (λ l. codes " PROCEDURE " ++ l) (pair_print schema routine)

-- privileges
other_columns : (names : List (List ℕ)) → printed (flat_map (λ other. mark 44 ∷ spaced_name other ∷ []) names ++ mark 41 ∷ []) ≡ flat_map (λ other. codes ", " ++ quoted other) names ++ codes ")"
other_columns [] = refl
other_columns (x ∷ xs) =
    ap (λ l. codes ", " ++ (quoted x ++ l)) (other_columns xs)
    ∙ sym (append_assoc (codes ", " ++ quoted x) (flat_map (λ other. codes ", " ++ quoted other) xs) (codes ")"))

columns_print : (names : List (List ℕ)) → printed (column_tokens names) ≡ list_text (codes " (") (codes ", ") quoted names ++ codes ")"
columns_print [] = refl
columns_print (x ∷ xs) =
    ap (λ l. codes " (" ++ (quoted x ++ l)) (other_columns xs)
    ∙ ap (λ l. codes " (" ++ l) (sym (append_assoc (quoted x) (flat_map (λ other. codes ", " ++ quoted other) xs) (codes ")")))

columns_item_print : (columns : ColumnPriv) → printed (columns_item_tokens columns) ≡ codes " " ++ columns_item columns
columns_item_print columns =
    printed-append (words_of (plain_name columns.privilege)) (column_tokens columns.names)
    ∙ ap (λ l. l ++ printed (column_tokens columns.names)) (words_text (plain_name columns.privilege))
    ∙ ap (λ l. (codes " " ++ plain_name columns.privilege) ++ l) (columns_print columns.names)

abbrev spaced : List ℕ → List ℕ
spaced text = codes " " ++ text

member_print : (test : Bool) (tokens : List Printed) (text : List ℕ) → printed tokens ≡ spaced text → map printed (member_if test tokens) ≡ map spaced (member_if test text)
member_print true tokens text e = ap (λ l. l ∷ []) e
member_print false tokens text e = refl

columns_all : (number : ℕ) (columns : List ColumnPriv) → map printed (flat_map (columns_at item_tokens number) columns) ≡ map spaced (flat_map (columns_at item_text number) columns)
columns_all number [] = refl
columns_all number (c ∷ cs) =
    map-append printed (columns_at item_tokens number c) (flat_map (columns_at item_tokens number) cs)
    ∙ ap (λ l. l ++ map printed (flat_map (columns_at item_tokens number) cs)) (member_print (eqb number c.privilege) (columns_item_tokens c) (columns_item c) (columns_item_print c))
    ∙ ap (λ l. map spaced (columns_at item_text number c) ++ l) (columns_all number cs)
    ∙ sym (map-append spaced (columns_at item_text number c) (flat_map (columns_at item_text number) cs))

static_print : (privileges : PrivList) (number : ℕ) → map printed (static_at item_tokens privileges number) ≡ map spaced (static_at item_text privileges number)
static_print privileges number =
    map-append printed (member_if (holds privileges.plain number) (words_of (plain_name number))) (flat_map (columns_at item_tokens number) privileges.columns)
    ∙ ap (λ l. l ++ map printed (flat_map (columns_at item_tokens number) privileges.columns)) (member_print (holds privileges.plain number) (words_of (plain_name number)) (plain_name number) (words_text (plain_name number)))
    ∙ ap (λ l. map spaced (member_if (holds privileges.plain number) (plain_name number)) ++ l) (columns_all number privileges.columns)
    ∙ sym (map-append spaced (member_if (holds privileges.plain number) (plain_name number)) (flat_map (columns_at item_text number) privileges.columns))

dynamic_print : (dynamic number : ℕ) → map printed (dynamic_at item_tokens dynamic number) ≡ map spaced (dynamic_at item_text dynamic number)
dynamic_print dynamic number = member_print (eqb (bit_at dynamic number) 1) (words_of (dynamic_name number)) (dynamic_name number) (words_text (dynamic_name number))

below_print : (n : ℕ) (tokens : ℕ → List (List Printed)) (texts : ℕ → List (List ℕ)) → ((k : ℕ) → map printed (tokens k) ≡ map spaced (texts k)) → map printed (each_below n tokens) ≡ map spaced (each_below n texts)
below_print zero tokens texts each = ap (map printed) (below_none tokens) ∙ sym (ap (map spaced) (below_none texts))
below_print (suc n) tokens texts each =
    ap (map printed) (below_suc n tokens)
    ∙ map-append printed (each_below n tokens) (tokens n)
    ∙ ap (λ l. l ++ map printed (tokens n)) (below_print n tokens texts each)
    ∙ ap (λ l. map spaced (each_below n texts) ++ l) (each n)
    ∙ sym (ap (map spaced) (below_suc n texts) ∙ map-append spaced (each_below n texts) (texts n))

items_print : (privileges : PrivList) → map printed (held_by item_tokens privileges) ≡ map spaced (held_by item_text privileges)
items_print privileges =
    map-append printed (each_below 31 (static_at item_tokens privileges)) (each_below 20 (dynamic_at item_tokens privileges.dynamic))
    ∙ ap (λ l. l ++ map printed (each_below 20 (dynamic_at item_tokens privileges.dynamic))) (below_print 31 (static_at item_tokens privileges) (static_at item_text privileges) (static_print privileges))
    ∙ ap (λ l. map spaced (each_below 31 (static_at item_text privileges)) ++ l) (below_print 20 (dynamic_at item_tokens privileges.dynamic) (dynamic_at item_text privileges.dynamic) (dynamic_print privileges.dynamic))
    ∙ sym (map-append spaced (each_below 31 (static_at item_text privileges)) (each_below 20 (dynamic_at item_text privileges.dynamic)))

usage_print : (tokens : List (List Printed)) (texts : List (List ℕ)) → map printed tokens ≡ map spaced texts → map printed (or_usage item_tokens tokens) ≡ map spaced (or_usage item_text texts)
usage_print [] [] e = refl
usage_print [] (y ∷ ys) e = cc
usage_print (x ∷ xs) [] e = cc
usage_print (x ∷ xs) (y ∷ ys) e = e

other_items : (tokens : List (List Printed)) (texts : List (List ℕ)) → map printed tokens ≡ map spaced texts → printed (flat_map (λ other. mark 44 ∷ same_tokens other) tokens) ≡ flat_map (λ other. codes ", " ++ same_text other) texts
other_items [] [] e = refl
other_items [] (y ∷ ys) e = cc
other_items (x ∷ xs) [] e = cc
other_items (x ∷ xs) (y ∷ ys) e =
    let first : printed x ≡ spaced y = cc in
    let rest : map printed xs ≡ map spaced ys = cc in
    ap (λ l. 44 ∷ l) (printed-append x (flat_map (λ other. mark 44 ∷ same_tokens other) xs) ∙ ap (λ l. l ++ printed (flat_map (λ other. mark 44 ∷ same_tokens other) xs)) first ∙ ap (λ l. spaced y ++ l) (other_items xs ys rest))

items_list : (tokens : List (List Printed)) (texts : List (List ℕ)) → map printed tokens ≡ map spaced texts → printed (list_tokens same_tokens tokens) ≡ members_text same_text texts
items_list [] [] e = refl
items_list [] (y ∷ ys) e = cc
items_list (x ∷ xs) [] e = cc
items_list (x ∷ xs) (y ∷ ys) e =
    let first : printed x ≡ spaced y = cc in
    let rest : map printed xs ≡ map spaced ys = cc in
    printed-append x (flat_map (λ other. mark 44 ∷ same_tokens other) xs)
    ∙ ap (λ l. l ++ printed (flat_map (λ other. mark 44 ∷ same_tokens other) xs)) first
    ∙ ap (λ l. spaced y ++ l) (other_items xs ys rest)

all_print : (all : Bool) (tokens : List (List Printed)) (texts : List (List ℕ)) → map printed tokens ≡ map spaced texts → printed (cond all (word (codes "ALL") ∷ []) (list_tokens same_tokens tokens)) ≡ cond all (codes " ALL") (members_text same_text texts)
all_print true tokens texts e = refl
all_print false tokens texts e = items_list tokens texts e

pub privileges_print : (privileges : PrivList) → printed (privileges_tokens privileges) ≡ privileges_text privileges
privileges_print privileges =
    all_print privileges.all (listed_by item_tokens privileges) (listed_by item_text privileges) (usage_print (held_by item_tokens privileges) (held_by item_text privileges) (items_print privileges))
