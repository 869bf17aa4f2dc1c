-- Bytes have one reading: what is taken is read in one way and not refused, and what is refused has one cause.
use Rattle.std.proofs.Common.{◌≡◌, ℕ, ◌<◌, ◌≤◌, List, [], ◌∷◌, ◌++◌, length, map, drop, get_or, Result, Ok, Err, IfOk, IfErr, MatchResult, refl, sym, ap, subst, ◌∙◌, inl, inr, arith, length-append, append-nil, append_assoc}
use Rattle.std.specs.List.{AllByRecursion}
use Rattle.std.proofs.lemmas.Bool.{cases_lt}
use Rattle.std.proofs.lemmas.List.{map-append}
use Rattle.std.proofs.Math.Seq.{get_or-append_seam}
use Rattle.grant_refusal.specs.declared.ParseRefusal.{ParseRefusal}
use Rattle.script_lines.proofs.Cuts.{cut_front, front_of, one_line_meaning, one_line_refusal, refused_unspelled, IsExact}
use Rattle.script_lines.proofs.Distinct.{one_session}
use Rattle.script_lines.proofs.Sessions.{any_of, first_appearances-push, grows_step}
use Rattle.script_lines.specs.Adding.{with_name}
use Rattle.script_lines.specs.Refusals.{HasMoreSessions, HaveSessions, RefusesScript, IsBadLine, IsBeyond, IsFirstRefused, IsScriptRefusal}
use Rattle.script_lines.specs.Script.{first_appearances, owner, AreLines, EachIsLine, IsLine, IsTaken}
use Rattle.script_lines.specs.Spelling.{IsLineRefused, Spells}
use Rattle.script_lines.specs.Texts.{command_lines}
use Rattle.script_lines.specs.declared.lines.Line.{Line}
use Rattle.script_lines.specs.declared.refusal.CommandRefusal.{CommandRefusal}
use Rattle.script_lines.specs.declared.refusal.ScriptRefusal.{ScriptRefusal}
use Rattle.script_lines.specs.declared.refusal.ScriptRefusal.TheVariants.{BadLine, Limit, NoMemory}
use Rattle.script_lines.specs.declared.refusal.Which.{Which}
use Rattle.script_lines.specs.declared.refusal.Which.TheVariants.{Bytes, Lines, Sessions}

-- fronts of one list

longer_front : (a b x y : List (ℕ × List ℕ)) → a ++ x ≡ b ++ y → length a ≤ length b → (rest : List (ℕ × List ℕ)) × (b ≡ a ++ rest)
longer_front [] b x y e le = (b, refl)
longer_front (u ∷ a) [] x y e le = absurd (omega arith)
longer_front (u ∷ a) (v ∷ b) x y e le =
    let more = longer_front a b x y (ap (drop 1) e) (omega arith) in
    let head : u ≡ v = ap (λ l. get_or l 0 u) e in
    (more.0, λ i. sym head i ∷ more.1 i)

past : (b a : List (ℕ × List ℕ)) (text : ℕ × List ℕ) (x y : List (ℕ × List ℕ)) → a ++ x ≡ b ++ text ∷ y → length b < length a → (rest : List (ℕ × List ℕ)) × (a ≡ b ++ text ∷ rest)
past [] [] text x y e lt = absurd (omega arith)
past [] (u ∷ a) text x y e lt =
    let head : u ≡ text = ap (λ l. get_or l 0 u) e in
    (a, ap (λ t. t ∷ a) head)
past (v ∷ b) [] text x y e lt = absurd (omega arith)
past (v ∷ b) (u ∷ a) text x y e lt =
    let more = past b a text x y (ap (drop 1) e) (omega arith) in
    let head : u ≡ v = ap (λ l. get_or l 0 u) e in
    (more.0, λ i. head i ∷ more.1 i)

-- each line of a script is spelled

record IsSpelled {M : Type 0} (spelled : List ℕ → M → Type 0) (text : ℕ × List ℕ) : Type 0 where
  name : List ℕ
  meaning : M
  spells : Spells spelled text.1 name meaning

lines_spelled : {M : Type 0} (spelled : List ℕ → M → Type 0) (names : List (List ℕ)) (texts : List (ℕ × List ℕ)) (lines : List (Line M)) → EachIsLine spelled names texts lines → AllByRecursion (IsSpelled spelled) texts
lines_spelled spelled names [] lines each = tt
lines_spelled spelled names (text ∷ texts) [] each = absurd each
lines_spelled spelled names (text ∷ texts) (line ∷ lines) each =
    (record { name = owner names line; meaning = line.command; spells = each.0.spells }, lines_spelled spelled names texts lines each.1)

texts_spelled : {M : Type 0} (spelled : List ℕ → M → Type 0) (texts : List (ℕ × List ℕ)) → HaveSessions spelled texts → AllByRecursion (IsSpelled spelled) texts
texts_spelled spelled texts has = lines_spelled spelled has.names texts has.lines has.are_lines.each

at_text : {M : Type 0} (spelled : List ℕ → M → Type 0) (front : List (ℕ × List ℕ)) (text : ℕ × List ℕ) (rest : List (ℕ × List ℕ)) → AllByRecursion (IsSpelled spelled) (front ++ text ∷ rest) → IsSpelled spelled text
at_text spelled [] text rest each = each.0
at_text spelled (first ∷ front) text rest each = at_text spelled front text rest each.1

-- spelled lines stop before the first that is refused
stops : {M : Type 0} (spelled : List ℕ → M → Type 0) (refused : List ℕ → CommandRefusal → Type 0) (texts : List (ℕ × List ℕ)) (n : ℕ) (refusal : ParseRefusal) (long behind : List (ℕ × List ℕ)) → IsExact spelled refused
    → (first : IsFirstRefused spelled refused texts n refusal) → texts ≡ long ++ behind → HaveSessions spelled long → length long ≤ length first.front
stops spelled refused texts n refusal long behind exact first split has =
    let P : List (ℕ × List ℕ) → Type 0 = λ ts. AllByRecursion (IsSpelled spelled) ts in
    elim (cases_lt (length first.front) (length long)) [
      | inl longer ↦
          let more = past first.front long (n, first.text) behind first.behind (sym split ∙ first.texts_are) longer in
          let this = at_text spelled first.front (n, first.text) more.0 (subst P more.1 (texts_spelled spelled long has)) in
          absurd (refused_unspelled spelled refused first.text this.name this.meaning refusal exact first.is_refused this.spells)
      | inr within ↦ within
    ]

-- the sessions of lines are told by their texts

name_of : ℕ × List ℕ → List ℕ
name_of text = front_of text.1

owners : {M : Type 0} (spelled : List ℕ → M → Type 0) (names : List (List ℕ)) (texts : List (ℕ × List ℕ)) (lines : List (Line M)) → EachIsLine spelled names texts lines → map name_of texts ≡ map (owner names) lines
unfolding name_of
owners spelled names [] [] each = refl
owners spelled names [] (line ∷ lines) each = absurd each
owners spelled names (text ∷ texts) [] each = absurd each
owners spelled names (text ∷ texts) (line ∷ lines) each = λ i. cut_front text.1 (owner names line) each.0.spells.command each.0.spells.cut i ∷ owners spelled names texts lines each.1 i

sessions_are : {M : Type 0} (spelled : List ℕ → M → Type 0) (texts : List (ℕ × List ℕ)) (names : List (List ℕ)) (lines : List (Line M)) → AreLines spelled texts names lines → first_appearances (map name_of texts) ≡ names
sessions_are spelled texts names lines are = ap first_appearances (owners spelled names texts lines are.each) ∙ are.sessions

-- more names, no fewer sessions
no_fewer : (xs ys : List (List ℕ)) → length (first_appearances xs) ≤ length (first_appearances (xs ++ ys))
no_fewer xs [] = omega (arith, ap (λ zs. length (first_appearances zs)) (append-nil xs))
no_fewer xs (y ∷ ys) =
    let step : length (first_appearances xs) ≤ length (with_name (first_appearances xs) y) = grows_step (first_appearances xs) y (any_of (first_appearances xs) y) in
    let push : length (first_appearances (xs ++ y ∷ [])) ≡ length (with_name (first_appearances xs) y) = ap length (first_appearances-push xs y) in
    let more : length (first_appearances (xs ++ y ∷ [])) ≤ length (first_appearances ((xs ++ y ∷ []) ++ ys)) = no_fewer (xs ++ y ∷ []) ys in
    let same : length (first_appearances ((xs ++ y ∷ []) ++ ys)) ≡ length (first_appearances (xs ++ y ∷ ys)) = ap (λ zs. length (first_appearances zs)) (append_assoc xs (y ∷ []) ys) in
    omega (arith, step, push, more, same)

fewer_sessions : {M : Type 0} (spelled : List ℕ → M → Type 0) (short long rest : List (ℕ × List ℕ)) (few : HaveSessions spelled short) (many : HaveSessions spelled long) → long ≡ short ++ rest → length few.names ≤ length many.names
fewer_sessions spelled short long rest few many split =
    let all : length (first_appearances (map name_of long)) ≡ length (first_appearances (map name_of short ++ map name_of rest)) =
    ap (λ ts. length (first_appearances (map name_of ts))) split ∙ ap (λ ts. length (first_appearances ts)) (map-append name_of short rest) in
    omega (arith, no_fewer (map name_of short) (map name_of rest), ap length (sessions_are spelled short few.names few.lines few.are_lines), ap length (sessions_are spelled long many.names many.lines many.are_lines), all)

-- one first line that is refused, and then no session too many before it

same_place : (a b x y : List (ℕ × List ℕ)) (s t : ℕ × List ℕ) → a ++ s ∷ x ≡ b ++ t ∷ y → length a ≡ length b → s ≡ t
same_place a b x y s t e same =
    sym (get_or-append_seam a s x s) ∙ ap (λ n. get_or (a ++ s ∷ x) n s) same ∙ ap (λ l. get_or l (length b) s) e ∙ get_or-append_seam b t y s

one_first : {M : Type 0} (spelled : List ℕ → M → Type 0) (refused : List ℕ → CommandRefusal → Type 0) (texts : List (ℕ × List ℕ)) (m n : ℕ) (p q : ParseRefusal) → IsExact spelled refused
    → IsFirstRefused spelled refused texts m p → IsFirstRefused spelled refused texts n q → BadLine m p ≡ BadLine n q
one_first spelled refused texts m n p q exact a b =
    let below = stops spelled refused texts n q a.front ((m, a.text) ∷ a.behind) exact b a.texts_are a.spelled_front in
    let above = stops spelled refused texts m p b.front ((n, b.text) ∷ b.behind) exact a b.texts_are b.spelled_front in
    let same = same_place a.front b.front a.behind b.behind (m, a.text) (n, b.text) (sym a.texts_are ∙ b.texts_are) (omega (arith, below, above)) in
    let number : m ≡ n = ap (λ (t : ℕ × List ℕ). t.0) same in
    let text : a.text ≡ b.text = ap (λ (t : ℕ × List ℕ). t.1) same in
    let P : List ℕ → Type 0 = λ t. IsLineRefused refused t q in
    let refusal : p ≡ q = one_line_refusal spelled refused a.text p q exact a.is_refused (subst P (sym text) b.is_refused) in
    λ i. BadLine (number i) (refusal i)

first_or_many : {M : Type 0} (spelled : List ℕ → M → Type 0) (refused : List ℕ → CommandRefusal → Type 0) (texts : List (ℕ × List ℕ)) (n : ℕ) (refusal : ParseRefusal) → IsExact spelled refused
    → IsFirstRefused spelled refused texts n refusal → HasMoreSessions spelled texts 64 → ⊥
first_or_many spelled refused texts n refusal exact first more =
    let short = stops spelled refused texts n refusal more.front more.behind exact first more.texts_are more.spelled_front in
    let rest = longer_front more.front first.front more.behind ((n, first.text) ∷ first.behind) (sym more.texts_are ∙ first.texts_are) short in
    let few = fewer_sessions spelled more.front first.front rest.0 more.spelled_front first.spelled_front rest.1 in
    omega (arith, few, more.many, first.few)

taken_no_first : {M : Type 0} (spelled : List ℕ → M → Type 0) (refused : List ℕ → CommandRefusal → Type 0) (bytes : List ℕ) (names : List (List ℕ)) (lines : List (Line M)) (n : ℕ) (refusal : ParseRefusal) → IsExact spelled refused
    → IsTaken spelled bytes names lines → IsFirstRefused spelled refused (command_lines bytes) n refusal → ⊥
taken_no_first spelled refused bytes names lines n refusal exact taken first =
    let short = stops spelled refused (command_lines bytes) n refusal (command_lines bytes) [] exact first (sym (append-nil (command_lines bytes))) (record { names = names; lines = lines; are_lines = taken.script }) in
    omega (arith, ap length first.texts_are, length-append first.front ((n, first.text) ∷ first.behind), short)

taken_not_many : {M : Type 0} (spelled : List ℕ → M → Type 0) (bytes : List ℕ) (names : List (List ℕ)) (lines : List (Line M)) → IsTaken spelled bytes names lines → HasMoreSessions spelled (command_lines bytes) 64 → ⊥
taken_not_many spelled bytes names lines taken more =
    let few : length more.spelled_front.names ≤ length names = fewer_sessions spelled more.front (command_lines bytes) more.behind more.spelled_front (record { names = names; lines = lines; are_lines = taken.script }) more.texts_are in
    omega (arith, few, more.many, taken.few)

-- one script

same_line : {M : Type 0} (spelled : List ℕ → M → Type 0) (refused : List ℕ → CommandRefusal → Type 0) (all names : List (List ℕ)) (text : ℕ × List ℕ) (a b : Line M) → IsExact spelled refused → first_appearances all ≡ names
    → IsLine spelled names text a → IsLine spelled names text b → a ≡ b
same_line spelled refused all names text a b exact are first second =
    let owner_is : owner names a ≡ owner names b =
    sym (cut_front text.1 (owner names a) first.spells.command first.spells.cut) ∙ cut_front text.1 (owner names b) second.spells.command second.spells.cut in
    let number : a.number ≡ b.number = first.number ∙ sym second.number in
    let session : a.session ≡ b.session = one_session all names a.session b.session are first.session second.session owner_is in
    let command : a.command ≡ b.command = one_line_meaning spelled refused text.1 (owner names a) (owner names b) a.command b.command exact first.spells second.spells in
    λ i. record { number = number i; session = session i; command = command i }

same_lines : {M : Type 0} (spelled : List ℕ → M → Type 0) (refused : List ℕ → CommandRefusal → Type 0) (all names : List (List ℕ)) (texts : List (ℕ × List ℕ)) (ones twos : List (Line M)) → IsExact spelled refused → first_appearances all ≡ names
    → EachIsLine spelled names texts ones → EachIsLine spelled names texts twos → ones ≡ twos
same_lines spelled refused all names [] [] [] exact are first second = refl
same_lines spelled refused all names [] [] (b ∷ twos) exact are first second = absurd second
same_lines spelled refused all names [] (a ∷ ones) twos exact are first second = absurd first
same_lines spelled refused all names (text ∷ texts) [] twos exact are first second = absurd first
same_lines spelled refused all names (text ∷ texts) (a ∷ ones) [] exact are first second = absurd second
same_lines spelled refused all names (text ∷ texts) (a ∷ ones) (b ∷ twos) exact are first second =
    λ i. same_line spelled refused all names text a b exact are first.0 second.0 i ∷ same_lines spelled refused all names texts ones twos exact are first.1 second.1 i

pub same_script : {M : Type 0} (spelled : List ℕ → M → Type 0) (refused : List ℕ → CommandRefusal → Type 0) (texts : List (ℕ × List ℕ)) (names others : List (List ℕ)) (ones twos : List (Line M)) → IsExact spelled refused
    → AreLines spelled texts names ones → AreLines spelled texts others twos → (names ≡ others) × (ones ≡ twos)
same_script spelled refused texts names others ones twos exact first second =
    let names_are : names ≡ others = sym (sessions_are spelled texts names ones first) ∙ sessions_are spelled texts others twos second in
    let P : List (List ℕ) → Type 0 = λ ns. EachIsLine spelled ns texts twos in
    (names_are, same_lines spelled refused (map (owner names) ones) names texts ones twos exact first.sessions first.each (subst P (sym names_are) second.each))

-- the causes of bytes exclude each other

bad_not_beyond : {M : Type 0} (spelled : List ℕ → M → Type 0) (refused : List ℕ → CommandRefusal → Type 0) (bytes : List ℕ) (line : ℕ) (refusal : ParseRefusal) (which : Which) (number : ℕ) → IsExact spelled refused
    → IsBadLine spelled refused bytes line refusal → IsBeyond spelled bytes which number → ⊥
bad_not_beyond spelled refused bytes line refusal Bytes number exact bad beyond = omega (arith, bad.within.bytes_are, beyond.1)
bad_not_beyond spelled refused bytes line refusal Lines number exact bad beyond = omega (arith, bad.within.lines_are, beyond.2)
bad_not_beyond spelled refused bytes line refusal Sessions number exact bad beyond = first_or_many spelled refused (command_lines bytes) line refusal exact bad.first beyond.2

one_beyond : {M : Type 0} (spelled : List ℕ → M → Type 0) (bytes : List ℕ) (a b : Which) (m n : ℕ) → IsBeyond spelled bytes a m → IsBeyond spelled bytes b n → Limit a m ≡ Limit b n
one_beyond spelled bytes Bytes Bytes m n first second = ap (Limit Bytes) (first.0 ∙ sym second.0)
one_beyond spelled bytes Bytes Lines m n first second = absurd (omega (arith, first.1, second.1))
one_beyond spelled bytes Bytes Sessions m n first second = absurd (omega (arith, first.1, second.1.bytes_are))
one_beyond spelled bytes Lines Bytes m n first second = absurd (omega (arith, first.1, second.1))
one_beyond spelled bytes Lines Lines m n first second = ap (Limit Lines) (first.0 ∙ sym second.0)
one_beyond spelled bytes Lines Sessions m n first second = absurd (omega (arith, first.2, second.1.lines_are))
one_beyond spelled bytes Sessions Bytes m n first second = absurd (omega (arith, first.1.bytes_are, second.1))
one_beyond spelled bytes Sessions Lines m n first second = absurd (omega (arith, first.1.lines_are, second.2))
one_beyond spelled bytes Sessions Sessions m n first second = ap (Limit Sessions) (first.0 ∙ sym second.0)

taken_not_beyond : {M : Type 0} (spelled : List ℕ → M → Type 0) (bytes : List ℕ) (names : List (List ℕ)) (lines : List (Line M)) (which : Which) (number : ℕ) → IsTaken spelled bytes names lines → IsBeyond spelled bytes which number → ⊥
taken_not_beyond spelled bytes names lines Bytes number taken beyond = omega (arith, taken.within.bytes_are, beyond.1)
taken_not_beyond spelled bytes names lines Lines number taken beyond = omega (arith, taken.within.lines_are, beyond.2)
taken_not_beyond spelled bytes names lines Sessions number taken beyond = taken_not_many spelled bytes names lines taken beyond.2

-- what is answered of bytes

pub taken_is_read : {M S : Type 0} (spelled : List ℕ → M → Type 0) (refused : List ℕ → CommandRefusal → Type 0) (names_of : S → List (List ℕ)) (lines_of : S → List (Line M)) (bytes : List ℕ) (result : Result S ScriptRefusal) → IsExact spelled refused
    → IfOk result (λ script. IsTaken spelled bytes (names_of script) (lines_of script)) → IfErr result (IsScriptRefusal spelled refused bytes)
    → (names : List (List ℕ)) (lines : List (Line M)) → IsTaken spelled bytes names lines → MatchResult result (λ script. (names ≡ names_of script) × (lines ≡ lines_of script)) (λ refusal. refusal ≡ NoMemory)
taken_is_read spelled refused names_of lines_of bytes (Ok script) exact found err names lines taken =
    same_script spelled refused (command_lines bytes) names (names_of script) lines (lines_of script) exact taken.script found.script
taken_is_read spelled refused names_of lines_of bytes (Err (BadLine number refusal)) exact found err names lines taken =
    absurd (taken_no_first spelled refused bytes names lines number refusal exact taken err.first)
taken_is_read spelled refused names_of lines_of bytes (Err (Limit which number)) exact found err names lines taken = absurd (taken_not_beyond spelled bytes names lines which number taken err)
taken_is_read spelled refused names_of lines_of bytes (Err NoMemory) exact found err names lines taken = refl

pub bad_line_is_told : {M S : Type 0} (spelled : List ℕ → M → Type 0) (refused : List ℕ → CommandRefusal → Type 0) (names_of : S → List (List ℕ)) (lines_of : S → List (Line M)) (bytes : List ℕ) (result : Result S ScriptRefusal) → IsExact spelled refused
    → IfOk result (λ script. IsTaken spelled bytes (names_of script) (lines_of script)) → IfErr result (IsScriptRefusal spelled refused bytes)
    → (number : ℕ) (refusal : ParseRefusal) → IsBadLine spelled refused bytes number refusal → RefusesScript result (BadLine number refusal)
bad_line_is_told spelled refused names_of lines_of bytes (Ok script) exact found err number refusal bad =
    absurd (taken_no_first spelled refused bytes (names_of script) (lines_of script) number refusal exact found bad.first)
bad_line_is_told spelled refused names_of lines_of bytes (Err (BadLine other r)) exact found err number refusal bad =
    inl (ap Err (one_first spelled refused (command_lines bytes) other number r refusal exact err.first bad.first))
bad_line_is_told spelled refused names_of lines_of bytes (Err (Limit which most)) exact found err number refusal bad = absurd (bad_not_beyond spelled refused bytes number refusal which most exact bad err)
bad_line_is_told spelled refused names_of lines_of bytes (Err NoMemory) exact found err number refusal bad = inr refl

pub limit_is_told : {M S : Type 0} (spelled : List ℕ → M → Type 0) (refused : List ℕ → CommandRefusal → Type 0) (names_of : S → List (List ℕ)) (lines_of : S → List (Line M)) (bytes : List ℕ) (result : Result S ScriptRefusal) → IsExact spelled refused
    → IfOk result (λ script. IsTaken spelled bytes (names_of script) (lines_of script)) → IfErr result (IsScriptRefusal spelled refused bytes)
    → (which : Which) (number : ℕ) → IsBeyond spelled bytes which number → RefusesScript result (Limit which number)
limit_is_told spelled refused names_of lines_of bytes (Ok script) exact found err which number beyond =
    absurd (taken_not_beyond spelled bytes (names_of script) (lines_of script) which number found beyond)
limit_is_told spelled refused names_of lines_of bytes (Err (BadLine line refusal)) exact found err which number beyond = absurd (bad_not_beyond spelled refused bytes line refusal which number exact err beyond)
limit_is_told spelled refused names_of lines_of bytes (Err (Limit other most)) exact found err which number beyond = inl (ap Err (one_beyond spelled bytes other which most number err beyond))
limit_is_told spelled refused names_of lines_of bytes (Err NoMemory) exact found err which number beyond = inr refl
