-- What the tokens of lines print.
use Rattle.std.proofs.Common.{◌≡◌, ◌∙◌, ap, refl, ℕ, Bool, true, false, cond, List, [], ◌∷◌, ◌++◌, map}
use Rattle.std.specs.List.{flat_map}
use Rattle.std.specs.Prelude.{codes}
use Rattle.acl_model.specs.Words.{is_dynamic_alone}
use Rattle.acl_names.specs.AuthId.{auth_text}
use Rattle.acl_names.specs.declared.auth.AuthId.{AuthId}
use Rattle.acl_stmt.specs.declared.privileges.PrivList.{PrivList}
use Rattle.acl_stmt.specs.declared.statement.Statement.{Statement}
use Rattle.acl_stmt.specs.declared.statement.Statement.TheVariants.{Grant, GrantRoles}
use Rattle.canonical_texts.proofs.PartTexts.{account_text, accounts_print, if_print, printed-append, privileges_print, target_print, words_text}
use Rattle.canonical_texts.proofs.TokenTexts.{tokens_text}
use Rattle.canonical_texts.specs.Lists.{list_text, text_if}
use Rattle.canonical_texts.specs.Privileges.{privileges_text, same_text}
use Rattle.canonical_texts.specs.Tokens.{account_tokens, accounts_tokens, mark, parts_of, privileges_tokens, target_tokens, tokens_if, word, words_of}
use Rattle.grant_lex.specs.Printed.{Printed, printed}
use Rattle.shown_texts.specs.LineTokens.{line_privilege_tokens, line_tokens, tight_list, unspaced}
use Rattle.shown_texts.specs.Lines.{dynamic_texts, line_privileges, line_text}

-- two parts, one after the other
two : (xs ys : List Printed) (a b : List ℕ) → printed xs ≡ a → printed ys ≡ b → printed (xs ++ ys) ≡ a ++ b
two xs ys a b e f = printed-append xs ys ∙ ap (λ l. l ++ printed ys) e ∙ ap (λ l. a ++ l) f

-- ---- members without the blank before them

unspaced_words : (parts : List (List ℕ)) (text : List ℕ) → printed (map word parts) ≡ 32 ∷ text → printed (unspaced (map word parts)) ≡ text
unspaced_words [] text is = cc
unspaced_words (part ∷ parts) text is = cc

words_behind : (text : List ℕ) → printed (unspaced (words_of text)) ≡ text
unfolding words_of
words_behind text = unspaced_words (parts_of text) text (words_text text)

account_behind : (account : AuthId) → printed (unspaced (account_tokens account)) ≡ auth_text account
account_behind account = let spaced = account_text account in cc

module _ {A : Type 0} (print : A → List Printed) (text : A → List ℕ) (spaced : (x : A) → printed (print x) ≡ codes " " ++ text x) (behind : (x : A) → printed (unspaced (print x)) ≡ text x) where
  others_print : (xs : List A) → printed (flat_map (λ other. mark 44 ∷ unspaced (print other)) xs) ≡ flat_map (λ other. codes "," ++ text other) xs
  others_print [] = refl
  others_print (x ∷ xs) =
      ap (λ l. 44 ∷ l)
      (two (unspaced (print x)) (flat_map (λ other. mark 44 ∷ unspaced (print other)) xs) (text x) (flat_map (λ other. codes "," ++ text other) xs) (behind x) (others_print xs))

  tight_print : (xs : List A) → printed (tight_list print xs) ≡ list_text (codes " ") (codes ",") text xs
  tight_print [] = refl
  tight_print (x ∷ xs) =
      two (print x) (flat_map (λ other. mark 44 ∷ unspaced (print other)) xs) (codes " " ++ text x) (flat_map (λ other. codes "," ++ text other) xs) (spaced x) (others_print xs)

-- ---- lines

privileges_by : (privileges : PrivList) (t : Bool)
    → printed (cond t (tight_list words_of (dynamic_texts privileges.dynamic)) (privileges_tokens privileges))
    ≡ cond t (list_text (codes " ") (codes ",") same_text (dynamic_texts privileges.dynamic)) (privileges_text privileges)
privileges_by privileges true = tight_print words_of same_text words_text words_behind (dynamic_texts privileges.dynamic)
privileges_by privileges false = privileges_print privileges

line_privileges_print : (privileges : PrivList) → printed (line_privilege_tokens privileges) ≡ line_privileges privileges
line_privileges_print privileges = privileges_by privileges (is_dynamic_alone privileges)

flag_behind : (test : Bool) (words : List ℕ) → printed (tokens_if test (words_of words)) ≡ text_if test (codes " " ++ words)
flag_behind test words = if_print test (words_of words) (codes " " ++ words) (words_text words)

-- the tokens of a line print its text
pub line_print : (s : Statement) → printed (line_tokens s) ≡ line_text s
unfolding line_text line_tokens
line_print (Grant privileges target accounts with_grant_option) =
    ap (λ l. codes "GRANT" ++ l)
    (two (line_privilege_tokens privileges) _ _ _ (line_privileges_print privileges)
    (ap (λ l. codes " ON" ++ l)
    (two (target_tokens target) _ _ _ (target_print target)
    (ap (λ l. codes " TO" ++ l) (two (accounts_tokens accounts) _ _ _ (accounts_print accounts) (flag_behind with_grant_option (codes "WITH GRANT OPTION")))))))
line_print (GrantRoles roles accounts with_admin_option) =
    ap (λ l. codes "GRANT" ++ l)
    (two (tight_list account_tokens roles) _ _ _ (tight_print account_tokens auth_text account_text account_behind roles)
    (ap (λ l. codes " TO" ++ l) (two (accounts_tokens accounts) _ _ _ (accounts_print accounts) (flag_behind with_admin_option (codes "WITH ADMIN OPTION")))))
line_print s = tokens_text s
