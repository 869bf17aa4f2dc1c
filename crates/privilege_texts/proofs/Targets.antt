-- Targets, with the wildcards of a schema's name kept as they are.
use Rattle.std.proofs.Common.{◌≡◌, ◌∙◌, refl, sym, ap, ℕ, ◌==◌, Bool, true, false, not, ◌&&◌, if◌then◌else◌, List, [], ◌∷◌, ◌++◌, inl, inr}
use Rattle.std.proofs.lemmas.Bool.{and_from, and_parts}
use Rattle.std.specs.Prelude.{Some, None, codes}
use Rattle.acl_grammar.specs.Spelling.{spells}
use Rattle.acl_stmt.specs.declared.target.Target.{Target}
use Rattle.acl_stmt.specs.declared.target.Target.TheVariants as on
use Rattle.canonical_texts.specs.Tokens.{mark, name, spaced_mark, spaced_name, target_tokens, word}
use Rattle.grant_words.specs.Classes.{is, is_identifier}
use Rattle.grant_words.specs.Lexemes.{printed_lexeme, printed_lexemes}
use Rattle.grant_words.specs.Syntax.{grammar_of}
use Rattle.mandatory_roles.proofs.Names.{value_quoted}
use Rattle.priv_items.proofs.Escaping.{unescaped-escaped}
use Rattle.priv_items.specs.Escapes.{escaped, unescaped}
use Rattle.privilege_statements.specs.Targets.{behind_star, dotted, escaped_target, is_long_schema, long_target, marked_target, schema_target, star_or_table, target}
use Rattle.privilege_texts.proofs.Names.{ident_spelled}
use Rattle.privilege_texts.specs.Rules.{target_keeps_rules}

global_spelled : spells (grammar_of target) (printed_lexemes (target_tokens on.Global)) on.Global
unfolding target marked_target behind_star is
global_spelled =
    inl
    (inl (
      printed_lexeme (spaced_mark 42),
      printed_lexeme (mark 46) ∷ printed_lexeme (mark 42) ∷ [],
      refl,
      refl,
      (printed_lexeme (mark 46), printed_lexeme (mark 42) ∷ [], refl, refl, (printed_lexeme (mark 42), [], refl, refl, (refl, refl))),
    ))

-- a schema's name that is an identifier as it is written, or a longer one that stands for an identifier
schema_spelled : (schema : List ℕ) (short : Bool) → is_identifier (escaped schema) ≡ short → is_identifier schema ≡ true
    → spells (grammar_of target) (printed_lexemes (target_tokens (on.Schema schema))) (on.Schema schema)
unfolding target schema_target escaped_target long_target star_or_table is
schema_spelled schema true short fit =
    let written : List ℕ = escaped schema in
    inr
    (inl (
      (written, None),
      (
        printed_lexeme (name written) ∷ [],
        printed_lexeme (mark 46) ∷ printed_lexeme (mark 42) ∷ [],
        refl,
        ident_spelled written short,
        (printed_lexeme (mark 46), printed_lexeme (mark 42) ∷ [], refl, refl, inl (printed_lexeme (mark 42), [], refl, refl, (refl, refl))),
      ),
      ap on.Schema (sym (unescaped-escaped schema)),
    ))
schema_spelled schema false long fit =
    let written : List ℕ = escaped schema in
    inr
    (inr (
      (schema, tt),
      (
        printed_lexeme (name written) ∷ [],
        printed_lexeme (mark 46) ∷ printed_lexeme (mark 42) ∷ [],
        refl,
        (
          printed_lexeme (name written),
          ap (λ text. not (is_identifier text) && is_long_schema text) (value_quoted written)
              ∙ and_from (not (is_identifier written)) (is_identifier (unescaped written)) (ap not long) (ap is_identifier (unescaped-escaped schema) ∙ fit),
          refl,
          sym (ap unescaped (value_quoted written) ∙ unescaped-escaped schema),
        ),
        (printed_lexeme (mark 46), printed_lexeme (mark 42) ∷ [], refl, refl, (printed_lexeme (mark 42), [], refl, refl, (refl, refl))),
      ),
      refl,
    ))

table_spelled : (schema table : List ℕ) → is_identifier schema ≡ true → is_identifier table ≡ true
    → spells (grammar_of target) (printed_lexemes (target_tokens (on.Table schema table))) (on.Table schema table)
unfolding target schema_target escaped_target star_or_table is
table_spelled schema table first second =
    inr
    (inl (
      (schema, Some table),
      (
        printed_lexeme (name schema) ∷ [],
        printed_lexeme (mark 46) ∷ printed_lexeme (name table) ∷ [],
        refl,
        ident_spelled schema first,
        (printed_lexeme (mark 46), printed_lexeme (name table) ∷ [], refl, refl, inr (table, ident_spelled table second, refl)),
      ),
      refl,
    ))

dotted_spelled : (schema routine : List ℕ) → is_identifier schema ≡ true → is_identifier routine ≡ true
    → spells (grammar_of dotted) (printed_lexemes (spaced_name schema ∷ mark 46 ∷ name routine ∷ [])) (schema, routine)
unfolding dotted is
dotted_spelled schema routine first second = (
  printed_lexeme (name schema) ∷ [],
  printed_lexeme (mark 46) ∷ printed_lexeme (name routine) ∷ [],
  refl,
  ident_spelled schema first,
  (printed_lexeme (mark 46), printed_lexeme (name routine) ∷ [], refl, refl, ident_spelled routine second),
)

function_spelled : (schema routine : List ℕ) → is_identifier schema ≡ true → is_identifier routine ≡ true
    → spells (grammar_of target) (printed_lexemes (target_tokens (on.Function schema routine))) (on.Function schema routine)
unfolding target marked_target is
function_spelled schema routine first second =
    inl
    (inr
    (inl (
      printed_lexeme (word (codes "FUNCTION")),
      printed_lexemes (spaced_name schema ∷ mark 46 ∷ name routine ∷ []),
      refl,
      refl,
      ((schema, routine), dotted_spelled schema routine first second, refl),
    )))

procedure_spelled : (schema routine : List ℕ) → is_identifier schema ≡ true → is_identifier routine ≡ true
    → spells (grammar_of target) (printed_lexemes (target_tokens (on.Procedure schema routine))) (on.Procedure schema routine)
unfolding target marked_target is
procedure_spelled schema routine first second =
    inl
    (inr
    (inr
    (inl (
      printed_lexeme (word (codes "PROCEDURE")),
      printed_lexemes (spaced_name schema ∷ mark 46 ∷ name routine ∷ []),
      refl,
      refl,
      ((schema, routine), dotted_spelled schema routine first second, refl),
    ))))

pub target_spelled : (on_what : Target) → target_keeps_rules on_what ≡ true → spells (grammar_of target) (printed_lexemes (target_tokens on_what)) on_what
target_spelled on.Global keeps = global_spelled
target_spelled (on.Schema schema) keeps = schema_spelled schema (is_identifier (escaped schema)) refl keeps
target_spelled (on.Table schema table) keeps =
    let parts = and_parts (is_identifier schema) (is_identifier table) keeps in table_spelled schema table parts.0 parts.1
target_spelled (on.Function schema routine) keeps =
    let parts = and_parts (is_identifier schema) (is_identifier routine) keeps in function_spelled schema routine parts.0 parts.1
target_spelled (on.Procedure schema routine) keeps =
    let parts = and_parts (is_identifier schema) (is_identifier routine) keeps in procedure_spelled schema routine parts.0 parts.1
