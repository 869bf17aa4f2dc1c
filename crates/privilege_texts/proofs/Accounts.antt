-- Lists of accounts that are written as user and host in backquotes.
use Rattle.std.proofs.Common.{◌≡◌, true, List, ◌∷◌}
use Rattle.std.specs.List.{list_all}
use Rattle.acl_grammar.specs.Spelling.{spells}
use Rattle.acl_names.specs.declared.auth.AuthId.{AuthId}
use Rattle.canonical_texts.proofs.SpelledAccounts.{account_spelled}
use Rattle.canonical_texts.specs.Rules.{account_keeps_rules}
use Rattle.canonical_texts.specs.Tokens.{account_tokens, accounts_tokens}
use Rattle.grant_words.specs.Lexemes.{printed_lexemes}
use Rattle.grant_words.specs.Lists.{accounts}
use Rattle.grant_words.specs.Names.{account}
use Rattle.grant_words.specs.Syntax.{grammar_of}
use Rattle.privilege_texts.proofs.Members.{each_kept, list_spelled}

pub accounts_spelled : (first : AuthId) (others : List AuthId) → list_all account_keeps_rules (first ∷ others) ≡ true
    → spells (grammar_of accounts) (printed_lexemes (accounts_tokens (first ∷ others))) (first ∷ others)
unfolding accounts
accounts_spelled first others keeps =
    list_spelled account_tokens (spells (grammar_of account)) first others first others (each_kept (λ x v. spells (grammar_of account) (printed_lexemes (account_tokens x)) v) account_keeps_rules account_spelled (first ∷ others) keeps)
