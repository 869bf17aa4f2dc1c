-- A script that is read line by line.
use Rattle.std.proofs.Common.{◌≡◌, ℕ, ◌+◌, ◌<◌, ◌≤◌, Bool, true, false, not, if◌then◌else◌, List, [], ◌∷◌, ◌++◌, length, map, slice_index_or, zero, suc, refl, sym, ap, subst, ◌∙◌, arith, length-append, append-nil, append_assoc}
use Rattle.std.specs.Bool.{MatchBool}
use Rattle.std.specs.Str.Lines.{lines}
use Rattle.std.proofs.Math.Seq.{get_or-append_seam}
use Rattle.std.proofs.lemmas.List.{map-append}
use Rattle.script_lines.proofs.Sessions.{first_appearances-push, grows, Grows}
use Rattle.script_lines.specs.Adding.{with_name, AddsLine, IsNotAdded, IsNotSeated, IsNotTaken, Takes}
use Rattle.script_lines.specs.Refusals.{IsScriptRefusal}
use Rattle.script_lines.specs.Script.{first_appearances, owner, seen, AreLines, EachIsLine, IsLine, IsTaken, IsWithinLimits}
use Rattle.script_lines.specs.Spelling.{Spells}
use Rattle.script_lines.specs.Texts.{command_lines, is_passed_over, numbered}
use Rattle.script_lines.specs.declared.lines.Line.{Line}
use Rattle.script_lines.specs.declared.refusal.CommandRefusal.{CommandRefusal}
use Rattle.script_lines.specs.declared.refusal.ScriptRefusal.{ScriptRefusal}
use Rattle.script_lines.specs.declared.refusal.ScriptRefusal.TheVariants.{BadLine, Limit, NoMemory}
use Rattle.script_lines.specs.declared.refusal.Which.TheVariants.{Bytes, Lines, Sessions}

-- lines keep their sessions when one joins

owner_kept : {M : Type 0} (spelled : List ℕ → M → Type 0) (old new : List (List ℕ)) (text : ℕ × List ℕ) (line : Line M) → Grows old new → IsLine spelled old text line → owner new line ≡ owner old line
owner_kept spelled old new text line more is_line = more.keeps line.session is_line.session

line_kept : {M : Type 0} (spelled : List ℕ → M → Type 0) (old new : List (List ℕ)) (text : ℕ × List ℕ) (line : Line M) → Grows old new → IsLine spelled old text line → IsLine spelled new text line
line_kept spelled old new text line more is_line =
    let P : List ℕ → Type 0 = λ name. Spells spelled text.1 name line.command in
    record {
      number = is_line.number;
      session = omega (arith, is_line.session, more.longer);
      spells = subst P (sym (owner_kept spelled old new text line more is_line)) is_line.spells;
    }

lines_kept : {M : Type 0} (spelled : List ℕ → M → Type 0) (old new : List (List ℕ)) (texts : List (ℕ × List ℕ)) (lines : List (Line M)) → Grows old new → EachIsLine spelled old texts lines → EachIsLine spelled new texts lines
lines_kept spelled old new [] [] more each = tt
lines_kept spelled old new [] (line ∷ lines) more each = absurd each
lines_kept spelled old new (text ∷ texts) [] more each = absurd each
lines_kept spelled old new (text ∷ texts) (line ∷ lines) more each = (line_kept spelled old new text line more each.0, lines_kept spelled old new texts lines more each.1)

owners_kept : {M : Type 0} (spelled : List ℕ → M → Type 0) (old new : List (List ℕ)) (texts : List (ℕ × List ℕ)) (lines : List (Line M)) → Grows old new → EachIsLine spelled old texts lines → map (owner new) lines ≡ map (owner old) lines
owners_kept spelled old new [] [] more each = refl
owners_kept spelled old new [] (line ∷ lines) more each = absurd each
owners_kept spelled old new (text ∷ texts) [] more each = absurd each
owners_kept spelled old new (text ∷ texts) (line ∷ lines) more each = λ i. owner_kept spelled old new text line more each.0 i ∷ owners_kept spelled old new texts lines more each.1 i

each-push : {M : Type 0} (spelled : List ℕ → M → Type 0) (names : List (List ℕ)) (texts : List (ℕ × List ℕ)) (lines : List (Line M)) (text : ℕ × List ℕ) (line : Line M)
    → EachIsLine spelled names texts lines → IsLine spelled names text line → EachIsLine spelled names (texts ++ text ∷ []) (lines ++ line ∷ [])
each-push spelled names [] [] text line each this = (this, tt)
each-push spelled names [] (other ∷ lines) text line each this = absurd each
each-push spelled names (other ∷ texts) [] text line each this = absurd each
each-push spelled names (other ∷ texts) (before ∷ lines) text line each this = (each.0, each-push spelled names texts lines text line each.1 this)

-- one line more
pub are_lines-push : {M : Type 0} (spelled : List ℕ → M → Type 0) (texts : List (ℕ × List ℕ)) (text : ℕ × List ℕ) (names new_names : List (List ℕ)) (lines new_lines : List (Line M))
    → AreLines spelled texts names lines → AddsLine spelled text names new_names lines new_lines → AreLines spelled (texts ++ text ∷ []) new_names new_lines
are_lines-push {M} spelled texts text names new_names lines new_lines are adds =
    let line : Line M = record { number = text.0; session = adds.session; command = adds.meaning } in
    let more = grows names new_names adds.name adds.seats.names_are in
    let P : List ℕ → Type 0 = λ name. Spells spelled text.1 name adds.meaning in
    let this : IsLine spelled new_names text line = record { number = refl; session = adds.seats.within; spells = subst P (sym adds.seats.named) adds.spells } in
    let all : AreLines spelled (texts ++ text ∷ []) new_names (lines ++ line ∷ []) = record {
      each = each-push spelled new_names texts lines text line (lines_kept spelled names new_names texts lines more are.each) this;
      sessions = ap first_appearances (map-append (owner new_names) lines (line ∷ []) ∙ ap (λ front. front ++ owner new_names line ∷ []) (owners_kept spelled names new_names texts lines more are.each))
          ∙ first_appearances-push (map (owner names) lines) (owner new_names line)
          ∙ ap (λ seen_names. with_name seen_names (owner new_names line)) are.sessions
          ∙ ap (with_name names) adds.seats.named ∙ sym adds.seats.names_are;
    } in
    let Q : List (Line M) → Type 0 = λ ls. AreLines spelled (texts ++ text ∷ []) new_names ls in
    subst Q (sym adds.lines_are) all

-- a script that is read up to some rest
pub record IsReadUpTo {M : Type 0} (spelled : List ℕ → M → Type 0) (bytes rest : List ℕ) (number : ℕ) (names : List (List ℕ)) (ls : List (Line M)) : Type 0 where
  pub texts : List (ℕ × List ℕ)
  pub split : command_lines bytes ≡ texts ++ numbered (number + 1) (lines rest)
  pub are_lines : AreLines spelled texts names ls
  pub few : length names ≤ 64
  pub all_lines : number + length (lines rest) ≡ length (lines bytes)
  pub shorter : length rest ≤ length bytes

-- nothing is read
pub read_none : {M : Type 0} (spelled : List ℕ → M → Type 0) (bytes : List ℕ) → IsReadUpTo spelled bytes bytes 0 [] []
read_none spelled bytes = record { texts = []; split = refl; are_lines = record { each = tt; sessions = refl }; few = omega arith; all_lines = omega arith; shorter = omega arith }

-- all is read
pub read_all : {M : Type 0} (spelled : List ℕ → M → Type 0) (bytes rest : List ℕ) (number : ℕ) (names : List (List ℕ)) (ls : List (Line M))
    → IsReadUpTo spelled bytes rest number names ls → rest ≡ [] → IsWithinLimits bytes → IsTaken spelled bytes names ls
read_all spelled bytes rest number names ls so_far end within =
    let P : List (ℕ × List ℕ) → Type 0 = λ texts. AreLines spelled texts names ls in
    record {
      within = within;
      script = subst P (sym (so_far.split ∙ ap (λ more. so_far.texts ++ numbered (number + 1) (lines more)) end ∙ append-nil so_far.texts)) so_far.are_lines;
      few = so_far.few;
    }

-- the lines behind a line that is passed over, and behind another
numbered-step : (number : ℕ) (text : List ℕ) (texts : List (List ℕ)) (b : Bool) → is_passed_over text ≡ b → numbered number (text ∷ texts) ≡ (if not b then (number, text) ∷ numbered (number + 1) texts else numbered (number + 1) texts)
numbered-step number text texts b is = ap (λ p. if not p then (number, text) ∷ numbered (number + 1) texts else numbered (number + 1) texts) is

-- the texts that are left, where the next line is passed over or has a command
abbrev LeftAfter : List ℕ → ℕ → List (ℕ × List ℕ) → List ℕ → List ℕ → Bool → Type 0
LeftAfter bytes number front text behind true = command_lines bytes ≡ front ++ numbered (number + 1) (lines behind)
LeftAfter bytes number front text behind false = command_lines bytes ≡ front ++ (number, text) ∷ numbered (number + 1) (lines behind)

left_after : (bytes rest text behind : List ℕ) (number : ℕ) (front : List (ℕ × List ℕ)) (b : Bool) → command_lines bytes ≡ front ++ numbered number (lines rest)
    → lines rest ≡ text ∷ lines behind → is_passed_over text ≡ b → LeftAfter bytes number front text behind b
left_after bytes rest text behind number front true split first is = split ∙ ap (λ more. front ++ numbered number more) first ∙ ap (λ more. front ++ more) (numbered-step number text (lines behind) true is)
left_after bytes rest text behind number front false split first is = split ∙ ap (λ more. front ++ numbered number more) first ∙ ap (λ more. front ++ more) (numbered-step number text (lines behind) false is)

-- the next line is read
read_step : {M : Type 0} (spelled : List ℕ → M → Type 0) (bytes rest text behind : List ℕ) (number : ℕ) (names new_names : List (List ℕ)) (ls new_ls : List (Line M)) (b : Bool)
    → IsReadUpTo spelled bytes rest number names ls → lines rest ≡ text ∷ lines behind → length behind < length rest → is_passed_over text ≡ b
    → MatchBool b ((new_names ≡ names) × (new_ls ≡ ls)) (AddsLine spelled (number + 1, text) names new_names ls new_ls) → length new_names ≤ 64 → IsReadUpTo spelled bytes behind (number + 1) new_names new_ls
read_step {M} spelled bytes rest text behind number names new_names ls new_ls true so_far first less is takes few =
    let P : List (List ℕ) → Type 0 = λ n. AreLines spelled so_far.texts n new_ls in
    let Q : List (Line M) → Type 0 = λ l. AreLines spelled so_far.texts names l in
    record {
      texts = so_far.texts;
      split = left_after bytes rest text behind (number + 1) so_far.texts true so_far.split first is;
      are_lines = subst P (sym takes.0) (subst Q (sym takes.1) so_far.are_lines);
      few = few;
      all_lines = omega (arith, so_far.all_lines, ap length first);
      shorter = omega (arith, so_far.shorter);
    }
read_step spelled bytes rest text behind number names new_names ls new_ls false so_far first less is takes few = record {
  texts = so_far.texts ++ (number + 1, text) ∷ [];
  split = left_after bytes rest text behind (number + 1) so_far.texts false so_far.split first is ∙ sym (append_assoc so_far.texts ((number + 1, text) ∷ []) (numbered (number + 1 + 1) (lines behind)));
  are_lines = are_lines-push spelled so_far.texts (number + 1, text) names new_names ls new_ls so_far.are_lines takes;
  few = few;
  all_lines = omega (arith, so_far.all_lines, ap length first);
  shorter = omega (arith, so_far.shorter);
}

pub read_next : {M : Type 0} (spelled : List ℕ → M → Type 0) (bytes rest text behind : List ℕ) (number : ℕ) (names new_names : List (List ℕ)) (ls new_ls : List (Line M))
    → IsReadUpTo spelled bytes rest number names ls → lines rest ≡ text ∷ lines behind → length behind < length rest
    → Takes spelled (number + 1, text) names new_names ls new_ls → length new_names ≤ 64 → IsReadUpTo spelled bytes behind (number + 1) new_names new_ls
read_next spelled bytes rest text behind number names new_names ls new_ls so_far first less takes few =
    read_step spelled bytes rest text behind number names new_names ls new_ls (is_passed_over text) so_far first less refl takes few

-- a line that is not added refuses the script
refused_by : {M : Type 0} (spelled : List ℕ → M → Type 0) (refused : List ℕ → CommandRefusal → Type 0) (bytes text : List ℕ) (number : ℕ) (front behind : List (ℕ × List ℕ)) (names : List (List ℕ)) (ls : List (Line M)) (refusal : ScriptRefusal)
    → command_lines bytes ≡ front ++ (number, text) ∷ behind → AreLines spelled front names ls → length names ≤ 64 → IsWithinLimits bytes → IsNotAdded spelled refused (number, text) names ls refusal → IsScriptRefusal spelled refused bytes refusal
refused_by spelled refused bytes text number front behind names ls (BadLine other refusal) split are few within why = record {
  within = within;
  first = record {
    front = front;
    text = text;
    behind = behind;
    texts_are = split ∙ ap (λ n. front ++ (n, text) ∷ behind) (sym why.number_is);
    spelled_front = record { names = names; lines = ls; are_lines = are };
    few = few;
    is_refused = why.is_refused;
  };
  is_fault = why.is_fault;
}
refused_by spelled refused bytes text number front behind names ls (Limit Bytes most) split are few within why = absurd why
refused_by spelled refused bytes text number front behind names ls (Limit Lines most) split are few within why = absurd why
refused_by spelled refused bytes text number front behind names ls (Limit Sessions most) split are few within why = (
  why.0,
  within,
  record {
    front = front ++ (number, text) ∷ [];
    behind = behind;
    texts_are = split ∙ sym (append_assoc front ((number, text) ∷ []) behind);
    spelled_front = record {
      names = why.1.new_names;
      lines = why.1.new_lines;
      are_lines = are_lines-push spelled front (number, text) names why.1.new_names ls why.1.new_lines are why.1.adds;
    };
    many = why.1.many;
  },
)
refused_by spelled refused bytes text number front behind names ls NoMemory split are few within why = tt

pub refused_here : {M : Type 0} (spelled : List ℕ → M → Type 0) (refused : List ℕ → CommandRefusal → Type 0) (bytes rest text behind : List ℕ) (number : ℕ) (names : List (List ℕ)) (ls : List (Line M)) (refusal : ScriptRefusal)
    → IsReadUpTo spelled bytes rest number names ls → lines rest ≡ text ∷ lines behind → IsWithinLimits bytes → IsNotTaken spelled refused (number + 1, text) names ls refusal → IsScriptRefusal spelled refused bytes refusal
refused_here spelled refused bytes rest text behind number names ls refusal so_far first within why =
    refused_by spelled refused bytes text (number + 1) so_far.texts (numbered (number + 1 + 1) (lines behind)) names ls refusal
    (left_after bytes rest text behind (number + 1) so_far.texts false so_far.split first why.0) so_far.are_lines so_far.few within why.1

-- a spelled line whose session is not seated is not added
pub not_seated : {M : Type 0} (spelled : List ℕ → M → Type 0) (refused : List ℕ → CommandRefusal → Type 0) (text : ℕ × List ℕ) (name : List ℕ) (meaning : M) (names : List (List ℕ)) (ls : List (Line M)) (refusal : ScriptRefusal)
    → Spells spelled text.1 name meaning → IsNotSeated names name refusal → IsNotAdded spelled refused text names ls refusal
not_seated spelled refused text name meaning names ls (BadLine number refusal) spells why = absurd why
not_seated spelled refused text name meaning names ls (Limit Bytes number) spells why = absurd why
not_seated spelled refused text name meaning names ls (Limit Lines number) spells why = absurd why
not_seated spelled refused text name meaning names ls (Limit Sessions number) spells why = (
  why.0,
  record {
    new_names = names ++ name ∷ [];
    new_lines = ls ++ record { number = text.0; session = length names; command = meaning } ∷ [];
    adds = record {
      name = name;
      meaning = meaning;
      session = length names;
      spells = spells;
      seats = record {
        names_are = ap (λ b. if b then names else names ++ name ∷ []) (sym why.2);
        within = omega (arith, length-append names (name ∷ []));
        named = get_or-append_seam names name [] [];
      };
      lines_are = refl;
    };
    many = omega (arith, why.1, length-append names (name ∷ []));
  },
)
not_seated spelled refused text name meaning names ls NoMemory spells why = tt

-- each line has its session among the sessions
seated-step : {C : Type 0} (names : List (List ℕ)) (line : Line C) (ls : List (Line C)) → line.session < length names → ((k : ℕ) (d : Line C) → k < length ls → (slice_index_or ls k d).session < length names)
    → (k : ℕ) (d : Line C) → k < length (line ∷ ls) → (slice_index_or (line ∷ ls) k d).session < length names
seated-step names line ls this rest zero d below = this
seated-step names line ls this rest (suc k) d below = rest k d (omega arith)

pub seated : {C M : Type 0} (view : C → M) (spelled : List ℕ → M → Type 0) (names : List (List ℕ)) (texts : List (ℕ × List ℕ)) (ls : List (Line C)) → EachIsLine spelled names texts (map (seen view) ls)
    → (k : ℕ) (d : Line C) → k < length ls → (slice_index_or ls k d).session < length names
seated view spelled names texts [] each k d below = absurd (omega arith)
seated view spelled names [] (line ∷ ls) each k d below = absurd each
seated view spelled names (text ∷ texts) (line ∷ ls) each k d below = seated-step names line ls each.0.session (seated view spelled names texts ls each.1) k d below
