-- A text is one command, or has one refusal.
use Rattle.std.proofs.Common.{◌≡◌, ◌⊎◌, ℕ, Bool, true, false, List, [], drop, Some, None, Ok, Result, inl, inr, refl, sym, ◌∙◌, ap, subst, append-nil, arith}
use Rattle.acl_grammar.proofs.Whole.{whole_only}
use Rattle.acl_grammar.specs.Spelling.{spells}
use Rattle.acl_stmt.specs.declared.statement.Statement.{Statement}
use Rattle.civil_moment.specs.Moment.{moment_of}
use Rattle.grant_parse.proofs.Unique.{one_statement, request_meant_once, statement_meant_once}
use Rattle.grant_parse.specs.Statements.{SpellsStatement, privilege_rule, user_rule}
use Rattle.grant_refusal.specs.declared.ParseRefusal.{ParseRefusal}
use Rattle.grant_refusal.specs.declared.ParseRefusal.TheVariants.{Limit, Syntax, WrongLevel, NoMemory}
use Rattle.grant_parse.proofs.Once.{IsUnique, spelled_once, syntax_once, unspelled}
use Rattle.grant_words.specs.Syntax.{grammar_of}
use Rattle.grant_words.specs.declared.lexeme.Lexeme.{Lexeme}
use Rattle.priv_sets.specs.declared.privilege.Privilege.{Privilege}
use Rattle.privilege_statements.specs.declared.statement.RawStatement.{RawStatement}
use Rattle.script_commands.proofs.Disjoint.{no_privilege_statement, no_user_statement}
use Rattle.script_commands.specs.Commands.{command}
use Rattle.script_commands.specs.Sanity.{command_sane}
use Rattle.script_commands.specs.declared.command.RawCommand.{RawCommand}
use Rattle.script_commands.specs.declared.command.RawCommand.TheVariants as raw
use Rattle.script_lines.specs.declared.refusal.CommandRefusal.{CommandRefusal}
use Rattle.script_lines.specs.declared.refusal.CommandRefusal.TheVariants.{Text, Unbuilt}
use Rattle.script_read.specs.Built.{IsBuiltCommand, IsBuiltRefusal, IsTextRefusal}
use Rattle.script_read.specs.Commands.{IsCommand, IsCommandRefusal, IsMisplaced, IsMisspelled, IsMistimed, IsTimed, IsUntimed}
use Rattle.script_commands.proofs.OneOption.{option_once}
use Rattle.script_read.specs.Written.{MeansCommand, MeansWritten, SpellsWritten, connect_at, written_fault}
use Rattle.script_read.specs.declared.command.Command.{Command}
use Rattle.script_read.specs.declared.command.Command.TheVariants as made

-- tokens are written in one way

same_value : {A E : Type 0} (a b : A) (r : Result A E) → r ≡ Ok a → r ≡ Ok b → a ≡ b
same_value a b r h k = let both : Ok a ≡ Ok b = sym h ∙ k in cc

one_written_command : (ts : List Lexeme) (a b : RawCommand) → spells (grammar_of command) ts a → spells (grammar_of command) ts b → a ≡ b
one_written_command ts a b k l =
    same_value a b _ (whole_only (grammar_of command) command_sane ts a k) (whole_only (grammar_of command) command_sane ts b l)

not_both : (ts : List Lexeme) (c : RawCommand) (s : Statement ⊎ RawStatement) → spells (grammar_of command) ts c → SpellsStatement ts s → ⊥
unfolding user_rule privilege_rule
not_both ts c s k (inl (x, (v, (us, ws, cut, l, end), same), is)) = no_user_statement ts [] us ws c v.0 (append-nil ts ∙ cut) k l
not_both ts c s k (inr (x, (v, (us, ws, cut, l, end), same), is)) = no_privilege_statement ts [] us ws c v.0 (append-nil ts ∙ cut) k l

one_written : IsUnique SpellsWritten
one_written ts m other (inl (a, k, e)) (inl (b, l, f)) = e ∙ ap inl (one_written_command ts a b k l) ∙ sym f
one_written ts m other (inl (a, k, e)) (inr (b, l, f)) = absurd (not_both ts a b k l)
one_written ts m other (inr (a, k, e)) (inl (b, l, f)) = absurd (not_both ts b a l k)
one_written ts m other (inr (a, k, e)) (inr (b, l, f)) = e ∙ ap inr (one_statement ts a b k l) ∙ sym f

command_meant_once : (w : RawCommand) (a b : Command) → MeansCommand w a → MeansCommand w b → a ≡ b
command_meant_once (raw.Connect connect) a b h k = h ∙ sym k
command_meant_once raw.Disconnect a b h k = h ∙ sym k
command_meant_once (raw.UseSchema schema) a b h k = h ∙ sym k
command_meant_once (raw.SetRole form) a b h k = h ∙ sym k
command_meant_once (raw.Check privileges target) a b (request, h, e) (other, k, f) =
    e ∙ ap made.Check (request_meant_once (privileges, target) request other h k) ∙ sym f
command_meant_once (raw.ShowGrants account roles) a b h k = h ∙ sym k
command_meant_once (raw.Await size turns) a b h k = h ∙ sym k

written_meant_once : (w : RawCommand ⊎ (Statement ⊎ RawStatement)) (a b : Command) → MeansWritten w a → MeansWritten w b → a ≡ b
written_meant_once (inl w) a b h k = command_meant_once w a b h k
written_meant_once (inr w) a b (s, h, e) (t, k, f) = e ∙ ap made.Statement (statement_meant_once w s t h k) ∙ sym f

-- a text is one command

some_same : {A : Type 0} (a b : A) → Some a ≡ Some b → a ≡ b
some_same a b e = cc

none_some : {A : Type 0} (a : A) → None ≡ Some a → ⊥
none_some a e = cc

timed_once : (text : List ℕ) (a b : Command) → IsTimed text a → IsTimed text b → a ≡ b
timed_once text a b h k =
    let same = option_once text h.connect k.connect h.place k.place h.has_moment k.has_moment in
    let moments : Some h.moment ≡ Some k.moment = sym h.moment_is ∙ ap (λ place. moment_of (drop place text)) same.1 ∙ k.moment_is in
    let moment = some_same h.moment k.moment moments in
    let both : connect_at h.connect (Some h.moment) ≡ connect_at k.connect (Some k.moment) = λ i. connect_at (same.0 i) (Some (moment i)) in
    h.command_is ∙ both ∙ sym k.command_is

untimed_once : (text : List ℕ) (a b : Command) → IsUntimed text a → IsUntimed text b → a ≡ b
untimed_once text a b h k =
    let same : k.written ≡ h.written = spelled_once SpellsWritten one_written text k.written h.written k.spelled h.spelled in
    let P : RawCommand ⊎ (Statement ⊎ RawStatement) → Type 0 = λ w. MeansWritten w b in
    written_meant_once h.written a b h.means (subst P same k.means)

one_kind : (text : List ℕ) (a b : Command) → IsTimed text a ⊎ IsUntimed text a → IsTimed text b ⊎ IsUntimed text b → a ≡ b
one_kind text a b (inl h) (inl k) = timed_once text a b h k
one_kind text a b (inl h) (inr k) = absurd (k.no_option h.connect h.place h.has_moment)
one_kind text a b (inr h) (inl k) = absurd (h.no_option k.connect k.place k.has_moment)
one_kind text a b (inr h) (inr k) = untimed_once text a b h k

pub one_meaning : (text : List ℕ) (first second : Command) → IsCommand text first → IsCommand text second → first ≡ second
one_meaning text first second h k = one_kind text first second h.kind k.kind

-- a text has one refusal

one_offset : (text : List ℕ) (m n : ℕ) → IsMistimed text m ⊎ IsMisspelled text m → IsMistimed text n ⊎ IsMisspelled text n → m ≡ n
one_offset text m n (inl h) (inl k) = (option_once text h.connect k.connect m n h.has_moment k.has_moment).1
one_offset text m n (inl h) (inr k) = absurd (k.no_option h.connect m h.has_moment)
one_offset text m n (inr h) (inl k) = absurd (h.no_option k.connect n k.has_moment)
one_offset text m n (inr h) (inr k) = syntax_once SpellsWritten text m n h.syntax k.syntax

one_level : (text : List ℕ) (p q : Privilege) → IsMisplaced text p → IsMisplaced text q → p ≡ q
one_level text p q h k =
    some_same p q (sym h.fault ∙ ap written_fault (spelled_once SpellsWritten one_written text h.written k.written h.spelled k.spelled) ∙ k.fault)

offset_or_level : (text : List ℕ) (n : ℕ) (p : Privilege) → IsMistimed text n ⊎ IsMisspelled text n → IsMisplaced text p → ⊥
offset_or_level text n p (inl h) k = k.no_option h.connect n h.has_moment
offset_or_level text n p (inr h) k = unspelled SpellsWritten text n k.written h.syntax k.spelled

one_cause : (text : List ℕ) (first second : ParseRefusal) → IsCommandRefusal text first → IsCommandRefusal text second → first ≡ second
one_cause text Limit Limit h k = refl
one_cause text Limit (Syntax n) h (short, k) = absurd (omega arith)
one_cause text Limit (WrongLevel q) h (short, k) = absurd (omega arith)
one_cause text Limit NoMemory h k = absurd k
one_cause text (Syntax m) Limit (short, h) k = absurd (omega arith)
one_cause text (Syntax m) (Syntax n) (short, h) (short', k) = ap Syntax (one_offset text m n h k)
one_cause text (Syntax m) (WrongLevel q) (short, h) (short', k) = absurd (offset_or_level text m q h k)
one_cause text (Syntax m) NoMemory h k = absurd k
one_cause text (WrongLevel p) Limit (short, h) k = absurd (omega arith)
one_cause text (WrongLevel p) (Syntax n) (short, h) (short', k) = absurd (offset_or_level text n p k h)
one_cause text (WrongLevel p) (WrongLevel q) (short, h) (short', k) = ap WrongLevel (one_level text p q h k)
one_cause text (WrongLevel p) NoMemory h k = absurd k
one_cause text NoMemory second h k = absurd h

pub one_refusal : (text : List ℕ) (first second : CommandRefusal) → IsTextRefusal text first → IsTextRefusal text second → first ≡ second
one_refusal text (Text first) (Text second) h k = ap Text (one_cause text first second h k)
one_refusal text (Text first) Unbuilt h k = absurd k
one_refusal text Unbuilt second h k = absurd h

-- a text that is a command has no refusal

kind_or_offset : (text : List ℕ) (c : Command) (n : ℕ) → IsTimed text c ⊎ IsUntimed text c → IsMistimed text n ⊎ IsMisspelled text n → ⊥
kind_or_offset text c n (inl h) (inl k) =
    let same = option_once text k.connect h.connect n h.place k.has_moment h.has_moment in
    none_some h.moment (sym k.is_none ∙ ap (λ place. moment_of (drop place text)) same.1 ∙ h.moment_is)
kind_or_offset text c n (inl h) (inr k) = k.no_option h.connect h.place h.has_moment
kind_or_offset text c n (inr h) (inl k) = h.no_option k.connect n k.has_moment
kind_or_offset text c n (inr h) (inr k) = unspelled SpellsWritten text n h.written k.syntax h.spelled

kind_or_level : (text : List ℕ) (c : Command) (p : Privilege) → IsTimed text c ⊎ IsUntimed text c → IsMisplaced text p → ⊥
kind_or_level text c p (inl h) k = k.no_option h.connect h.place h.has_moment
kind_or_level text c p (inr h) k =
    none_some p (sym h.fits ∙ ap written_fault (spelled_once SpellsWritten one_written text h.written k.written h.spelled k.spelled) ∙ k.fault)

command_or_cause : (text : List ℕ) (c : Command) (refusal : ParseRefusal) → IsCommand text c → IsCommandRefusal text refusal → ⊥
command_or_cause text c Limit h k = let short = h.short in omega arith
command_or_cause text c (Syntax n) h (short, k) = kind_or_offset text c n h.kind k
command_or_cause text c (WrongLevel p) h (short, k) = kind_or_level text c p h.kind k
command_or_cause text c NoMemory h k = k

pub apart : (text : List ℕ) (meaning : Command) (refusal : CommandRefusal) → IsCommand text meaning → IsTextRefusal text refusal → ⊥
apart text meaning (Text refusal) h k = command_or_cause text meaning refusal h k
apart text meaning Unbuilt h k = k

-- the same of commands whose form is built

pub built_one_meaning : (built : Command → Bool) (text : List ℕ) (first second : Command) → IsBuiltCommand built text first → IsBuiltCommand built text second → first ≡ second
built_one_meaning built text first second h k = one_meaning text first second h.is_command k.is_command

pub built_one_refusal : (built : Command → Bool) (text : List ℕ) (first second : CommandRefusal) → IsBuiltRefusal built text first → IsBuiltRefusal built text second → first ≡ second
built_one_refusal built text (Text first) (Text second) h k = ap Text (one_cause text first second h k)
built_one_refusal built text (Text first) Unbuilt h k = absurd (command_or_cause text k.command first k.is_command h)
built_one_refusal built text Unbuilt (Text second) h k = absurd (command_or_cause text h.command second h.is_command k)
built_one_refusal built text Unbuilt Unbuilt h k = refl

pub built_apart : (built : Command → Bool) (text : List ℕ) (meaning : Command) (refusal : CommandRefusal) → IsBuiltCommand built text meaning → IsBuiltRefusal built text refusal → ⊥
built_apart built text meaning (Text refusal) h k = command_or_cause text meaning refusal h.is_command k
built_apart built text meaning Unbuilt h k =
    let same = one_meaning text k.command meaning k.is_command h.is_command in
    let wrong : false ≡ true = sym k.not_built ∙ ap built same ∙ h.is_built in
    absurd (cc)
