-- The items of a list of privileges, each from the words of its name.
use Rattle.std.proofs.Common.{◌≡◌, ◌∙◌, refl, sym, ap, subst, ℕ, zero, suc, ◌+◌, ◌≤◌, ◌<◌, ◌==◌, ◌||◌, true, false, List, [], ◌∷◌, ◌++◌, map, inl, inr, arith}
use Rattle.std.proofs.lemmas.Bool.{cases_lt, eqb-true, or_cases, true≢false}
use Rattle.std.specs.List.{flat_map, list_all}
use Rattle.std.specs.Prelude.{Some, codes}
use Rattle.acl_grammar.specs.Spelling.{spells}
use Rattle.acl_stmt.specs.Lists.{is_some_list}
use Rattle.acl_stmt.specs.declared.columns.ColumnPriv.{ColumnPriv}
use Rattle.canonical_texts.proofs.Lexemes.{lexemes_append}
use Rattle.canonical_texts.specs.Tokens.{column_tokens, columns_item_tokens, list_tokens, mark, name, spaced_mark, spaced_name, word, words_of}
use Rattle.grant_lex.specs.Printed.{Printed}
use Rattle.grant_words.specs.Classes.{is, is_identifier}
use Rattle.grant_words.specs.Lexemes.{printed_lexeme, printed_lexemes}
use Rattle.grant_words.specs.Names.{ident}
use Rattle.grant_words.specs.Syntax.{grammar_of}
use Rattle.grant_words.specs.declared.lexeme.Lexeme.{Lexeme}
use Rattle.priv_items.proofs.Fits.{some_names}
use Rattle.priv_items.proofs.OwnItems.{column_rules}
use Rattle.priv_items.specs.declared.item.Item.TheVariants.{Plain, Columns, Dynamic, Usage}
use Rattle.priv_sets.proofs.LevelLemmas.{no_level_above}
use Rattle.priv_sets.specs.DynamicNames.{dynamic_name, dynamic_names}
use Rattle.priv_sets.specs.Levels.{has_level}
use Rattle.priv_sets.specs.PlainNames.{plain_name, plain_names}
use Rattle.priv_sets.specs.declared.level.Level.TheVariants.{Column}
use Rattle.privilege_statements.proofs.ReadNames.{dynamic_spelled, plain_spelled}
use Rattle.privilege_statements.specs.NameTokens.{name_tokens, word_token}
use Rattle.privilege_statements.specs.PrivilegeItems.{column_names, item, maybe_columns, privilege_item, static_privilege}
use Rattle.privilege_statements.specs.PrivilegeNames.{lone_class, lone_number, lone_numbers, numbers_from, other_name, static_name}
use Rattle.privilege_texts.proofs.Members.{each_kept, list_spelled}
use Rattle.privilege_texts.proofs.Names.{ident_spelled}

-- two tables that agree as lists agree at each number
same_at : {A : Type 0} (f g : ℕ → A) (first count n : ℕ) → map f (numbers_from first count) ≡ map g (numbers_from first count) → first ≤ n → n < first + count → f n ≡ g n
same_at f g first zero n same above below = absurd (omega arith)
same_at f g first (suc count) n same above below =
    let here : f first ≡ g first = cc in
    let rest : map f (numbers_from (suc first) count) ≡ map g (numbers_from (suc first) count) = cc in
    elim (cases_lt first n) [
      | inl less ↦ same_at f g (suc first) count n rest (omega arith) (omega arith)
      | inr more ↦ let equal : first ≡ n = omega arith in sym (ap f equal) ∙ here ∙ ap g equal
    ]

plain_words : (n : ℕ) → n < 31 → printed_lexemes (words_of (plain_name n)) ≡ name_tokens (plain_name n)
unfolding plain_names words_of
plain_words n below = same_at (λ q. printed_lexemes (words_of (plain_name q))) (λ q. name_tokens (plain_name q)) 0 31 n refl (omega arith) below

dynamic_words : (n : ℕ) → n < 20 → printed_lexemes (words_of (dynamic_name n)) ≡ name_tokens (dynamic_name n)
unfolding dynamic_names words_of
dynamic_words n below = same_at (λ q. printed_lexemes (words_of (dynamic_name q))) (λ q. name_tokens (dynamic_name q)) 0 20 n refl (omega arith) below

pub plain_item : (n : ℕ) → n < 31 → spells (grammar_of item) (printed_lexemes (words_of (plain_name n))) (Plain n)
plain_item n below = subst (λ tokens. spells (grammar_of item) tokens (Plain n)) (sym (plain_words n below)) (plain_spelled n below)

pub dynamic_item : (n : ℕ) → n < 20 → spells (grammar_of item) (printed_lexemes (words_of (dynamic_name n))) (Dynamic n)
dynamic_item n below = subst (λ tokens. spells (grammar_of item) tokens (Dynamic n)) (sym (dynamic_words n below)) (dynamic_spelled n below)

pub usage_item : spells (grammar_of item) (printed_lexemes (word (codes "USAGE") ∷ [])) Usage
unfolding item is
usage_item = inl (printed_lexeme (word (codes "USAGE")), [], refl, refl, (refl, refl))

-- a name of one word
lone_of : (n : ℕ) (token : Lexeme) → name_tokens (plain_name n) ≡ token ∷ [] → is lone_class token ≡ true → n ≡ lone_number token.value
    → spells (grammar_of static_name) (name_tokens (plain_name n)) n
unfolding static_name other_name
lone_of n token one fits number = inr (inr (inr (inr (inr (inr (token, fits, one, number))))))

-- the privileges that may have columns
abbrev IsLone : ℕ → Type 0
IsLone n = spells (grammar_of static_name) (name_tokens (plain_name n)) n

select_name : IsLone 0
unfolding plain_names lone_numbers is
select_name = lone_of 0 (word_token (codes "SELECT")) refl refl refl

insert_name : IsLone 1
unfolding plain_names lone_numbers is
insert_name = lone_of 1 (word_token (codes "INSERT")) refl refl refl

update_name : IsLone 2
unfolding plain_names lone_numbers is
update_name = lone_of 2 (word_token (codes "UPDATE")) refl refl refl

references_name : IsLone 10
unfolding plain_names lone_numbers is
references_name = lone_of 10 (word_token (codes "REFERENCES")) refl refl refl

among_four : (n : ℕ) → (0 == n || (1 == n || (2 == n || (10 == n || false)))) ≡ true → IsLone n
among_four n level =
    elim (or_cases (0 == n) (1 == n || (2 == n || (10 == n || false))) level) [
      | inl is_first ↦ subst IsLone (eqb-true 0 n is_first) select_name
      | inr rest ↦ elim (or_cases (1 == n) (2 == n || (10 == n || false)) rest) [
        | inl is_second ↦ subst IsLone (eqb-true 1 n is_second) insert_name
        | inr later ↦ elim (or_cases (2 == n) (10 == n || false) later) [
          | inl is_third ↦ subst IsLone (eqb-true 2 n is_third) update_name
          | inr last ↦ elim (or_cases (10 == n) false last) [
            | inl is_last ↦ subst IsLone (eqb-true 10 n is_last) references_name
            | inr never ↦ absurd (true≢false (sym never))
          ]
        ]
      ]
    ]

lone_name : (n : ℕ) → has_level Column n ≡ true → IsLone n
unfolding has_level
lone_name n level = among_four n level

-- blanks count for nothing
other_names : (others : List (List ℕ)) → printed_lexemes (flat_map (λ other. mark 44 ∷ spaced_name other ∷ []) others) ≡ printed_lexemes (flat_map (λ other. mark 44 ∷ name other ∷ []) others)
other_names [] = refl
other_names (other ∷ others) = ap (λ rest. printed_lexeme (mark 44) ∷ printed_lexeme (name other) ∷ rest) (other_names others)

abbrev name_alone : List ℕ → List Printed
name_alone text = name text ∷ []

-- what stands behind the opening parenthesis
inside_tokens : (first : List ℕ) (others : List (List ℕ))
    → printed_lexemes (name first ∷ (flat_map (λ other. mark 44 ∷ spaced_name other ∷ []) others ++ mark 41 ∷ [])) ≡ printed_lexemes (list_tokens name_alone (first ∷ others)) ++ printed_lexeme (mark 41) ∷ []
inside_tokens first others =
    ap (λ rest. printed_lexeme (name first) ∷ rest)
    (lexemes_append (flat_map (λ other. mark 44 ∷ spaced_name other ∷ []) others) (mark 41 ∷ []) ∙ ap (λ rest. rest ++ printed_lexeme (mark 41) ∷ []) (other_names others))

columns_spelled : (first : List ℕ) (others : List (List ℕ)) → list_all is_identifier (first ∷ others) ≡ true
    → spells (grammar_of maybe_columns) (printed_lexemes (column_tokens (first ∷ others))) (Some (first ∷ others))
unfolding maybe_columns column_names is
columns_spelled first others fit =
    inl (
      printed_lexeme (spaced_mark 40),
      printed_lexemes (name first ∷ (flat_map (λ other. mark 44 ∷ spaced_name other ∷ []) others ++ mark 41 ∷ [])),
      refl,
      refl,
      (
        first ∷ others,
        (
          (first ∷ others, tt),
          (
            printed_lexemes (list_tokens name_alone (first ∷ others)),
            printed_lexeme (mark 41) ∷ [],
            inside_tokens first others,
            list_spelled name_alone (spells (grammar_of ident)) first others first others
                (each_kept (λ x v. spells (grammar_of ident) (printed_lexemes (name_alone x)) v) is_identifier ident_spelled (first ∷ others) fit),
            (printed_lexeme (mark 41), [], refl, refl, (refl, refl)),
          ),
          refl,
        ),
        refl,
      ),
    )

column_number : (n : ℕ) → has_level Column n ≡ true → n < 31
column_number n level =
    elim (cases_lt n 31) [
      | inl below ↦ below
      | inr above ↦ absurd (true≢false (sym level ∙ no_level_above Column n above))
    ]

with_columns : (n : ℕ) (names : List (List ℕ)) → is_some_list names ≡ true → has_level Column n ≡ true → list_all is_identifier names ≡ true
    → spells (grammar_of item) (printed_lexemes (words_of (plain_name n) ++ column_tokens names)) (Columns n names)
unfolding item privilege_item static_privilege
with_columns n [] some level fit = absurd (true≢false (sym some))
with_columns n (first ∷ others) some level fit =
    inr
    (inr
    (inr (
      (n, Some (first ∷ others)),
      (
        name_tokens (plain_name n),
        printed_lexemes (column_tokens (first ∷ others)),
        lexemes_append (words_of (plain_name n)) (column_tokens (first ∷ others))
            ∙ ap (λ words. words ++ printed_lexemes (column_tokens (first ∷ others))) (plain_words n (column_number n level)),
        lone_name n level,
        columns_spelled first others fit,
      ),
      refl,
    )
    )
    )

pub columns_item : (listed : ColumnPriv) → list_all is_identifier listed.names ≡ true
    → spells (grammar_of item) (printed_lexemes (columns_item_tokens listed)) (Columns listed.privilege listed.names)
columns_item listed fit = with_columns listed.privilege listed.names (some_names listed) (column_rules listed).level fit
