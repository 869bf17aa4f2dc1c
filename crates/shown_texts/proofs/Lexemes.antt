-- The tokens of a line stand for what those of the canonical text stand for.
use Rattle.std.proofs.Common.{◌≡◌, ◌∙◌, ap, sym, refl, ℕ, zero, suc, ◌+◌, ◌-◌, ◌==◌, Bool, true, false, cond, not, ◌&&◌, ◌||◌, List, [], ◌∷◌, ◌++◌, map, length, take, drop, append_assoc, length-append, arith}
use Rattle.std.proofs.Math.Seq.{drop-append-add, drop-append_seam, take-append_seam}
use Rattle.std.proofs.lemmas.Bool.{and_parts, eqb-true, not-true}
use Rattle.std.proofs.lemmas.List.{map-append}
use Rattle.std.proofs.lemmas.Nat.Bits.{bit_at-zero}
use Rattle.std.specs.Int.{bit_at}
use Rattle.std.specs.List.{flat_map}
use Rattle.std.specs.Prelude.{codes, slice_range}
use Rattle.acl_model.specs.Words.{is_dynamic_alone}
use Rattle.acl_stmt.specs.Lists.{is_some_list}
use Rattle.acl_stmt.specs.declared.columns.ColumnPriv.{ColumnPriv}
use Rattle.acl_stmt.specs.declared.privileges.PrivList.{PrivList}
use Rattle.acl_stmt.specs.declared.statement.Statement.{Statement}
use Rattle.acl_stmt.specs.declared.statement.Statement.TheVariants.{Grant, GrantRoles}
use Rattle.canonical_texts.proofs.Lexemes.{lexemes_append}
use Rattle.canonical_texts.proofs.Members.{below_none, below_suc}
use Rattle.canonical_texts.specs.Lexemes.{canonical_lexemes}
use Rattle.canonical_texts.specs.Privileges.{item_text}
use Rattle.canonical_texts.specs.StatementTokens.{further_tokens}
use Rattle.canonical_texts.specs.Tokens.{account_tokens, accounts_tokens, item_tokens, list_tokens, mark, opening_word, privileges_tokens, same_tokens, target_tokens, tokens_if, word, words_of}
use Rattle.grant_lex.specs.Printed.{Printed, printed, tokens_of}
use Rattle.grant_lex.specs.Value.{value_of}
use Rattle.grant_words.specs.Lexemes.{lexemes_of, printed_lexeme, printed_lexemes}
use Rattle.grant_words.specs.declared.lexeme.Lexeme.{Lexeme}
use Rattle.priv_items.specs.Canonical.{columns_at, dynamic_at, each_below, member_if, or_usage, static_at}
use Rattle.priv_sets.specs.DynamicNames.{dynamic_name}
use Rattle.priv_sets.specs.PlainNames.{plain_name}
use Rattle.priv_sets.specs.StaticSet.{bits_of, holds}
use Rattle.shown_texts.specs.LineTokens.{line_privilege_tokens, line_tokens, tight_list, unspaced}
use Rattle.shown_texts.specs.Lines.{dynamic_texts}

-- ---- blanks count for nothing

unspaced_lexemes : (ps : List Printed) → printed_lexemes (unspaced ps) ≡ printed_lexemes ps
unspaced_lexemes [] = refl
unspaced_lexemes (p ∷ ps) = refl

module _ {A : Type 0} (print : A → List Printed) where
  others_lexemes : (xs : List A) → printed_lexemes (flat_map (λ other. mark 44 ∷ unspaced (print other)) xs) ≡ printed_lexemes (flat_map (λ other. mark 44 ∷ print other) xs)
  others_lexemes [] = refl
  others_lexemes (x ∷ xs) =
      ap (λ l. printed_lexeme (mark 44) ∷ l)
      (lexemes_append (unspaced (print x)) (flat_map (λ other. mark 44 ∷ unspaced (print other)) xs)
      ∙ ap (λ l. l ++ printed_lexemes (flat_map (λ other. mark 44 ∷ unspaced (print other)) xs)) (unspaced_lexemes (print x))
      ∙ ap (λ l. printed_lexemes (print x) ++ l) (others_lexemes xs)
      ∙ sym (lexemes_append (print x) (flat_map (λ other. mark 44 ∷ print other) xs)))

  tight_lexemes : (xs : List A) → printed_lexemes (tight_list print xs) ≡ printed_lexemes (list_tokens print xs)
  tight_lexemes [] = refl
  tight_lexemes (x ∷ xs) =
      lexemes_append (print x) (flat_map (λ other. mark 44 ∷ unspaced (print other)) xs) ∙ ap (λ l. printed_lexemes (print x) ++ l) (others_lexemes xs)
      ∙ sym (lexemes_append (print x) (flat_map (λ other. mark 44 ∷ print other) xs))

-- ---- dynamic privileges alone

others_of_words : (xs : List (List ℕ)) → flat_map (λ other. mark 44 ∷ words_of other) xs ≡ flat_map (λ other. mark 44 ∷ same_tokens other) (map words_of xs)
others_of_words [] = refl
others_of_words (x ∷ xs) = ap (λ l. (mark 44 ∷ words_of x) ++ l) (others_of_words xs)

list_of_words : (xs : List (List ℕ)) → list_tokens words_of xs ≡ list_tokens same_tokens (map words_of xs)
list_of_words [] = refl
list_of_words (x ∷ xs) = ap (λ l. words_of x ++ l) (others_of_words xs)

member_words : (t : Bool) (text : List ℕ) → map words_of (member_if t text) ≡ member_if t (words_of text)
member_words true text = refl
member_words false text = refl

below_words : (limit dynamic : ℕ) → map words_of (each_below limit (dynamic_at item_text dynamic)) ≡ each_below limit (dynamic_at item_tokens dynamic)
below_words zero dynamic = ap (map words_of) (below_none (dynamic_at item_text dynamic)) ∙ sym (below_none (dynamic_at item_tokens dynamic))
below_words (suc limit) dynamic =
    ap (map words_of) (below_suc limit (dynamic_at item_text dynamic))
    ∙ map-append words_of (each_below limit (dynamic_at item_text dynamic)) (dynamic_at item_text dynamic limit)
    ∙ ap (λ l. l ++ map words_of (dynamic_at item_text dynamic limit)) (below_words limit dynamic)
    ∙ ap (λ l. each_below limit (dynamic_at item_tokens dynamic) ++ l) (member_words (bit_at dynamic limit == 1) (dynamic_name limit))
    ∙ sym (below_suc limit (dynamic_at item_tokens dynamic))

usage_words : (texts : List (List ℕ)) → map words_of (or_usage item_text texts) ≡ or_usage item_tokens (map words_of texts)
unfolding words_of
usage_words [] = refl
usage_words (text ∷ texts) = refl

nothing_below : (limit : ℕ) (at : ℕ → List (List Printed)) → ((n : ℕ) → at n ≡ []) → each_below limit at ≡ []
nothing_below zero at none = below_none at
nothing_below (suc limit) at none = below_suc limit at ∙ ap (λ l. l ++ at limit) (nothing_below limit at none) ∙ none limit

none_held : (list : PrivList) (n : ℕ) → bits_of list.plain ≡ 0 → holds list.plain n ≡ false
unfolding holds
none_held list n empty = ap (λ bits. bit_at bits n == 1) empty ∙ ap (λ bit. bit == 1) (bit_at-zero n)

no_static : (list : PrivList) → bits_of list.plain ≡ 0 → list.columns ≡ [] → (n : ℕ) → static_at item_tokens list n ≡ []
no_static list empty none n =
    ap (λ t. member_if t (words_of (plain_name n)) ++ flat_map (columns_at item_tokens n) list.columns) (none_held list n empty)
    ∙ ap (λ (columns : List ColumnPriv). flat_map (columns_at item_tokens n) columns) none

dynamic_lexemes : (list : PrivList) → is_dynamic_alone list ≡ true → list.columns ≡ []
    → printed_lexemes (tight_list words_of (dynamic_texts list.dynamic)) ≡ printed_lexemes (privileges_tokens list)
dynamic_lexemes list alone none =
    let first = and_parts (not list.all && bits_of list.plain == 0) (not (list.dynamic == 0)) alone in
    let second = and_parts (not list.all) (bits_of list.plain == 0) first.0 in
    let dynamics : List (List Printed) = each_below 20 (dynamic_at item_tokens list.dynamic) in
    let statics = nothing_below 31 (static_at item_tokens list) (no_static list (eqb-true (bits_of list.plain) 0 second.1) none) in
    tight_lexemes words_of (dynamic_texts list.dynamic) ∙ ap printed_lexemes (list_of_words (dynamic_texts list.dynamic))
    ∙ ap (λ l. printed_lexemes (list_tokens same_tokens l)) (usage_words (each_below 20 (dynamic_at item_text list.dynamic)))
    ∙ ap (λ l. printed_lexemes (list_tokens same_tokens (or_usage item_tokens l))) (below_words 20 list.dynamic)
    ∙ sym (ap (λ t. printed_lexemes (cond t (word (codes "ALL") ∷ []) (list_tokens same_tokens (or_usage item_tokens (each_below 31 (static_at item_tokens list) ++ dynamics))))) (not-true list.all second.0)
    ∙ ap (λ l. printed_lexemes (list_tokens same_tokens (or_usage item_tokens (l ++ dynamics)))) statics)

-- dynamic privileges alone have no columns beside them
abbrev pub is_line_list : PrivList → Bool
is_line_list list = not (is_dynamic_alone list) || not (is_some_list list.columns)

no_columns : (columns : List ColumnPriv) → not (is_some_list columns) ≡ true → columns ≡ []
no_columns [] none = refl
no_columns (c ∷ columns) none = cc

list_lexemes : (list : PrivList) → is_line_list list ≡ true → printed_lexemes (line_privilege_tokens list) ≡ printed_lexemes (privileges_tokens list)
list_lexemes list line = by (is_dynamic_alone list) refl line
  where
    by : (t : Bool) → is_dynamic_alone list ≡ t → (not t || not (is_some_list list.columns)) ≡ true
        → printed_lexemes (cond t (tight_list words_of (dynamic_texts list.dynamic)) (privileges_tokens list)) ≡ printed_lexemes (privileges_tokens list)
    by true alone none = dynamic_lexemes list alone (no_columns list.columns none)
    by false other none = refl

-- ---- lines

abbrev pub is_line : Statement → Bool
is_line (Grant privileges target accounts with_grant_option) = is_line_list privileges
is_line _ = true

replaced : (first : Printed) (xs ys rest : List Printed) → printed_lexemes xs ≡ printed_lexemes ys → printed_lexemes (first ∷ (xs ++ rest)) ≡ printed_lexemes (first ∷ (ys ++ rest))
replaced first xs ys rest same = ap (λ l. printed_lexeme first ∷ l) (lexemes_append xs rest ∙ ap (λ l. l ++ printed_lexemes rest) same ∙ sym (lexemes_append ys rest))

pub line_lexemes : (s : Statement) → is_line s ≡ true → printed_lexemes (line_tokens s) ≡ canonical_lexemes s
unfolding line_tokens further_tokens
line_lexemes (Grant privileges target accounts with_grant_option) line =
    replaced (opening_word (codes "GRANT")) (line_privilege_tokens privileges) (privileges_tokens privileges)
    (word (codes "ON") ∷ (target_tokens target ++ word (codes "TO") ∷ (accounts_tokens accounts ++ tokens_if with_grant_option (words_of (codes "WITH GRANT OPTION")))))
    (list_lexemes privileges line)
line_lexemes (GrantRoles roles accounts with_admin_option) line =
    replaced (opening_word (codes "GRANT")) (tight_list account_tokens roles) (accounts_tokens roles)
    (word (codes "TO") ∷ (accounts_tokens accounts ++ tokens_if with_admin_option (words_of (codes "WITH ADMIN OPTION")))) (tight_lexemes account_tokens roles)
line_lexemes s line = refl

-- ---- what printed tokens stand for

part : (before blanks text rest : List ℕ)
    → slice_range (before ++ (blanks ++ (text ++ rest))) (length before + length blanks) (length before + length blanks + length text) ≡ text
part before blanks text rest =
    let size : length before + length blanks + length text - (length before + length blanks) ≡ length text = omega arith in
    let left : drop (length before + length blanks) (before ++ (blanks ++ (text ++ rest))) ≡ text ++ rest =
    drop-append-add before (blanks ++ (text ++ rest)) (length blanks) ∙ drop-append_seam blanks (text ++ rest) in
    ap (λ n. take n (drop (length before + length blanks) (before ++ (blanks ++ (text ++ rest))))) size
    ∙ ap (take (length text)) left ∙ take-append_seam text rest

in_three : (before blanks text rest : List ℕ) → (before ++ (blanks ++ text)) ++ rest ≡ before ++ (blanks ++ (text ++ rest))
in_three before blanks text rest = simp append_assoc

three_long : (before blanks text : List ℕ) → length (before ++ (blanks ++ text)) ≡ length before + length blanks + length text
three_long before blanks text = simp length-append (omega arith)

pub lexemes_behind : (before : List ℕ) (ps : List Printed) → lexemes_of (before ++ printed ps) (tokens_of (length before) ps) ≡ printed_lexemes ps
lexemes_behind before [] = refl
lexemes_behind before (p ∷ ps) =
    let behind : List ℕ = before ++ (p.blanks ++ p.text) in
    let same : lexemes_of (before ++ (p.blanks ++ (p.text ++ printed ps))) (tokens_of (length before + length p.blanks + length p.text) ps)
    ≡ lexemes_of (behind ++ printed ps) (tokens_of (length behind) ps) =
    ap (λ l. lexemes_of l (tokens_of (length before + length p.blanks + length p.text) ps)) (sym (in_three before p.blanks p.text (printed ps)))
    ∙ ap (λ n. lexemes_of (behind ++ printed ps) (tokens_of n ps)) (sym (three_long before p.blanks p.text)) in
    let value = ap value_of (part before p.blanks p.text (printed ps)) in
    ap (λ v. let made : Lexeme = record { kind = p.kind; value = v } in made ∷ lexemes_of (before ++ (p.blanks ++ (p.text ++ printed ps))) (tokens_of (length before + length p.blanks + length p.text) ps)) value
    ∙ ap (λ l. printed_lexeme p ∷ l) (same ∙ lexemes_behind behind ps)
