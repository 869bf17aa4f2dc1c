-- A line is cut into just its tokens.
use Rattle.std.proofs.Common.{◌≡◌, ◌∙◌, ap, sym, refl, subst, ℕ, zero, suc, ◌<◌, ◌==◌, Bool, true, false, cond, List, [], ◌∷◌, length, arith}
use Rattle.std.proofs.lemmas.Bool.{and_from, and_parts}
use Rattle.std.proofs.lemmas.List.Folds.{list_all-append}
use Rattle.std.specs.Int.{bit_at}
use Rattle.std.specs.List.{flat_map, list_all}
use Rattle.std.specs.Prelude.{IsTrue, codes, slice_index_or}
use Rattle.acl_model.specs.Words.{is_dynamic_alone}
use Rattle.acl_stmt.specs.Statements.{is_statement}
use Rattle.acl_stmt.specs.declared.privileges.PrivList.{PrivList}
use Rattle.acl_stmt.specs.declared.statement.Statement.{Statement}
use Rattle.acl_stmt.specs.declared.statement.Statement.TheVariants.{Grant, GrantRoles}
use Rattle.canonical_texts.proofs.Chains.{IsChain, IsSegment, chain_printed, follows_start, no_tokens, segment_append, segment_flat, segment_mark}
use Rattle.canonical_texts.proofs.Members.{below_none, below_suc}
use Rattle.canonical_texts.proofs.Printable.{canonical_cut}
use Rattle.canonical_texts.proofs.Segments.{account_segment, accounts_segment, are_words, if_segment, opening_token, privileges_segment, target_segment, word_then, words_segment}
use Rattle.canonical_texts.specs.Privileges.{item_text}
use Rattle.canonical_texts.specs.Tokens.{account_tokens, mark, opening_word, privileges_tokens, words_of}
use Rattle.grant_lex.proofs.Prints.{printed_cut}
use Rattle.grant_lex.specs.Printed.{Printed, printed, tokens_of}
use Rattle.grant_lex.specs.Token.{IsCut}
use Rattle.priv_items.specs.Canonical.{dynamic_at, each_below, member_if, or_usage}
use Rattle.priv_sets.specs.DynamicNames.{dynamic_name, dynamic_names}
use Rattle.shown_texts.proofs.Printing.{line_print}
use Rattle.shown_texts.specs.LineTokens.{line_privilege_tokens, line_tokens, tight_list, unspaced}
use Rattle.shown_texts.specs.Lines.{dynamic_texts, line_text}

-- ---- no blank behind a comma

unspaced_chain : (ps : List Printed) → IsChain ps → IsChain (unspaced ps)
unspaced_chain [] chain = tt
unspaced_chain (p ∷ []) chain = (record { blanks = tt; sort = chain.0.sort }, tt, tt)
unspaced_chain (p ∷ q ∷ ps) chain = (record { blanks = tt; sort = chain.0.sort }, chain.1, chain.2)

behind_comma : (ps : List Printed) → IsSegment ps → IsSegment (mark 44 ∷ unspaced ps)
behind_comma ps segment = segment_mark 44 [] (unspaced ps) tt refl (unspaced_chain ps segment.chain)

tight_segment : {A : Type 0} (print : A → List Printed) → ((x : A) → IsSegment (print x)) → (xs : List A) → IsSegment (tight_list print xs)
tight_segment print each [] = no_tokens
tight_segment print each (x ∷ xs) =
    segment_append (print x) (flat_map (λ other. mark 44 ∷ unspaced (print other)) xs) (each x)
    (segment_flat (λ other. mark 44 ∷ unspaced (print other)) (λ other. behind_comma (print other) (each other)) xs)

-- ---- names of dynamic privileges

other_words : (texts : List (List ℕ)) → list_all are_words texts ≡ true → IsSegment (flat_map (λ other. mark 44 ∷ unspaced (words_of other)) texts)
other_words [] each = no_tokens
other_words (text ∷ texts) each =
    let parts = and_parts (are_words text) (list_all are_words texts) each in
    segment_append (mark 44 ∷ unspaced (words_of text)) (flat_map (λ other. mark 44 ∷ unspaced (words_of other)) texts)
    (behind_comma (words_of text) (words_segment text parts.0)) (other_words texts parts.1)

tight_words : (texts : List (List ℕ)) → list_all are_words texts ≡ true → IsSegment (tight_list words_of texts)
tight_words [] each = no_tokens
tight_words (text ∷ texts) each =
    let parts = and_parts (are_words text) (list_all are_words texts) each in
    segment_append (words_of text) (flat_map (λ other. mark 44 ∷ unspaced (words_of other)) texts) (words_segment text parts.0) (other_words texts parts.1)

passes_at : (names : List (List ℕ)) (n : ℕ) → list_all are_words names ≡ true → n < length names → are_words (slice_index_or names n []) ≡ true
passes_at [] n each within = absurd (omega arith)
passes_at (name ∷ names) zero each within = (and_parts (are_words name) (list_all are_words names) each).0
passes_at (name ∷ names) (suc n) each within = passes_at names n (and_parts (are_words name) (list_all are_words names) each).1 (omega arith)

name_words : (n : ℕ) → n < 20 → are_words (dynamic_name n) ≡ true
unfolding dynamic_names
name_words n within = passes_at dynamic_names n refl within

member_words : (t : Bool) (text : List ℕ) → are_words text ≡ true → list_all are_words (member_if t text) ≡ true
member_words true text words = and_from (are_words text) true words refl
member_words false text words = refl

below_words : (limit dynamic : ℕ) → ((n : ℕ) → n < limit → n < 20) → list_all are_words (each_below limit (dynamic_at item_text dynamic)) ≡ true
below_words zero dynamic within = ap (list_all are_words) (below_none (dynamic_at item_text dynamic))
below_words (suc limit) dynamic within =
    ap (list_all are_words) (below_suc limit (dynamic_at item_text dynamic))
    ∙ list_all-append are_words (each_below limit (dynamic_at item_text dynamic)) (dynamic_at item_text dynamic limit)
    ∙ and_from (list_all are_words (each_below limit (dynamic_at item_text dynamic))) (list_all are_words (dynamic_at item_text dynamic limit))
    (below_words limit dynamic (λ n below. within n (omega arith)))
    (member_words (bit_at dynamic limit == 1) (dynamic_name limit) (name_words limit (within limit (omega arith))))

usage_words : (texts : List (List ℕ)) → list_all are_words texts ≡ true → list_all are_words (or_usage item_text texts) ≡ true
usage_words [] each = refl
usage_words (text ∷ texts) each = each

privileges_tight : (list : PrivList) → IsSegment (line_privilege_tokens list)
privileges_tight list = by (is_dynamic_alone list)
  where
    by : (t : Bool) → IsSegment (cond t (tight_list words_of (dynamic_texts list.dynamic)) (privileges_tokens list))
    by true = tight_words (dynamic_texts list.dynamic) (usage_words (each_below 20 (dynamic_at item_text list.dynamic)) (below_words 20 list.dynamic (λ n below. below)))
    by false = privileges_segment list

-- ---- lines

-- a GRANT whose further tokens stand apart
granted_cut : (s : Statement) (rest : List Printed) → line_tokens s ≡ opening_word (codes "GRANT") ∷ rest → IsSegment rest → IsCut (line_text s) (tokens_of 0 (line_tokens s))
granted_cut s rest is segment =
    let whole : List Printed = opening_word (codes "GRANT") ∷ rest in
    let cut : IsCut (printed whole) (tokens_of 0 whole) =
    printed_cut whole (chain_printed whole (opening_token (codes "GRANT") refl, follows_start (opening_word (codes "GRANT")) rest segment.starts, segment.chain)) in
    let P : List Printed → Type 0 = λ ps. IsCut (printed ps) (tokens_of 0 ps) in
    subst (λ l. IsCut l (tokens_of 0 (line_tokens s))) (line_print s) (subst P (sym is) cut)

pub line_cut : (s : Statement) → IsTrue (is_statement s) → IsCut (line_text s) (tokens_of 0 (line_tokens s))
unfolding line_text line_tokens
line_cut (Grant privileges target accounts with_grant_option) ok =
    granted_cut (Grant privileges target accounts with_grant_option) _ refl
    (segment_append _ _ (privileges_tight privileges)
    (word_then (codes "ON") _ refl
    (segment_append _ _ (target_segment target)
    (word_then (codes "TO") _ refl
    (segment_append _ _ (accounts_segment accounts) (if_segment with_grant_option (words_of (codes "WITH GRANT OPTION")) (words_segment (codes "WITH GRANT OPTION") refl)))))))
line_cut (GrantRoles roles accounts with_admin_option) ok =
    granted_cut (GrantRoles roles accounts with_admin_option) _ refl
    (segment_append _ _ (tight_segment account_tokens account_segment roles)
    (word_then (codes "TO") _ refl
    (segment_append _ _ (accounts_segment accounts) (if_segment with_admin_option (words_of (codes "WITH ADMIN OPTION")) (words_segment (codes "WITH ADMIN OPTION") refl)))))
line_cut s ok = canonical_cut s ok
