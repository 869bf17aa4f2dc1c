-- Lines are read as the statements that they are printed from.
use Rattle.std.proofs.Common.{◌≡◌, ◌∙◌, ap, sym, subst, ℕ, true, List, [], ◌∷◌, ◌++◌, map, Ok}
use Rattle.std.proofs.lemmas.Bool.{and_parts}
use Rattle.std.specs.List.{AllByRecursion, list_all}
use Rattle.acl_stmt.specs.Entries.{is_entry}
use Rattle.acl_stmt.specs.Statements.{is_statement}
use Rattle.acl_stmt.specs.declared.entry.Entry.{Entry}
use Rattle.acl_stmt.specs.declared.statement.Statement.{Statement}
use Rattle.accepted_lists.proofs.Named.{legal_of}
use Rattle.canonical_texts.specs.Lexemes.{canonical_lexemes}
use Rattle.grant_lex.specs.Printed.{tokens_of}
use Rattle.grant_parse.proofs.Once.{answered_only}
use Rattle.grant_parse.proofs.Unique.{one_statement, statement_meant_once}
use Rattle.grant_parse.specs.Meaning.{IsStatement, MeansStatement, level_fault}
use Rattle.grant_parse.specs.Statements.{SpellsStatement}
use Rattle.grant_words.specs.Lexemes.{lexemes_of}
use Rattle.grant_words.specs.declared.lexeme.Lexeme.{Lexeme}
use Rattle.shown_laws.specs.Again.{AreEntriesOf}
use Rattle.shown_texts.proofs.Cuts.{line_cut}
use Rattle.shown_texts.proofs.Lexemes.{is_line, lexemes_behind, line_lexemes}
use Rattle.shown_texts.proofs.Printing.{line_print}
use Rattle.shown_texts.proofs.Spelled.{line_spelled}
use Rattle.shown_texts.specs.LineTokens.{line_tokens}
use Rattle.shown_texts.specs.Lines.{line_text}
use Rattle.shown_texts.specs.Names.{line_names_keep_rules}
use Rattle.shown_texts.specs.ReadLines.{AreIssued, IsReadAs}

-- the tokens of a line's text
text_lexemes : (s : Statement) → is_line s ≡ true → lexemes_of (line_text s) (tokens_of 0 (line_tokens s)) ≡ canonical_lexemes s
text_lexemes s line = ap (λ l. lexemes_of l (tokens_of 0 (line_tokens s))) (sym (line_print s)) ∙ lexemes_behind [] (line_tokens s) ∙ line_lexemes s line

pub line_read : (s : Statement) → is_statement s ≡ true → is_line s ≡ true → line_names_keep_rules s ≡ true → IsReadAs (line_text s) s
line_read s legal line keep most short =
    let again = line_spelled s legal keep in (
      short,
      again.value,
      (tokens_of 0 (line_tokens s), line_cut s legal, subst (λ (l : List Lexeme). SpellsStatement l again.value) (sym (text_lexemes s line)) again.spelled),
      again.fits,
      again.meant,
    )

pub lines_read : (ss : List Statement) → list_all (is_entry []) ss ≡ true → list_all is_line ss ≡ true → list_all line_names_keep_rules ss ≡ true
    → AllByRecursion (λ s. IsReadAs (line_text s) s) ss
lines_read [] legal lines keep = tt
lines_read (s ∷ ss) legal lines keep =
    let first = and_parts (is_entry [] s) (list_all (is_entry []) ss) legal in
    let second = and_parts (is_line s) (list_all is_line ss) lines in
    let third = and_parts (line_names_keep_rules s) (list_all line_names_keep_rules ss) keep in
    (line_read s (legal_of [] s first.0) second.0 third.0, lines_read ss first.1 second.1 third.1)

-- a text is one statement
statement_once : (most : ℕ) (text : List ℕ) (s other : Statement) → IsStatement most text s → IsStatement most text other → s ≡ other
statement_once most text s other one two = answered_only SpellsStatement level_fault MeansStatement one_statement statement_meant_once most text (Ok s) one tt other two

-- what is issued by the texts of lines is the lines
pub issued_lines : (most : ℕ) (ss : List Statement) (entries : List Entry) → AllByRecursion (λ s. IsReadAs (line_text s) s) ss → AreIssued most (map line_text ss) entries → AreEntriesOf ss entries
issued_lines most [] [] read issued = tt
issued_lines most [] (entry ∷ entries) read issued = absurd issued
issued_lines most (s ∷ ss) [] read issued = absurd issued
issued_lines most (s ∷ ss) (entry ∷ entries) read issued = (
  statement_once most (line_text s) entry.statement s issued.0 (read.0 most issued.0.0),
  (issued.1.0, issued_lines most ss entries read.1 issued.1.1),
)

-- one of several lines
pub line_among : (ss earlier : List Statement) (s : Statement) (later : List Statement) → AllByRecursion (λ x. IsReadAs (line_text x) x) ss → ss ≡ earlier ++ s ∷ later → IsReadAs (line_text s) s
line_among ss earlier s later read split = at earlier (subst (λ (xs : List Statement). AllByRecursion (λ x. IsReadAs (line_text x) x) xs) split read)
  where
    at : (front : List Statement) → AllByRecursion (λ x. IsReadAs (line_text x) x) (front ++ s ∷ later) → IsReadAs (line_text s) s
    at [] each = each.0
    at (x ∷ front) each = at front each.1
