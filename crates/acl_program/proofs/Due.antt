-- Bytes that are no script are told.
use Rattle.std.proofs.Common.{◌≡◌, ◌∙◌, ap, sym, subst, ℕ, ◌<◌, ◌≤◌, ◌⊎◌, inl, inr, Bool, true, false, List, [], length, drop, Option, None, Some, IfErr, IfOk, IfSome, Result, Ok, Err, refl, arith}
use Rattle.std.proofs.Math.Seq.{drop-length}
use Rattle.acl_program.specs.Causes.{cause_of_fault, cause_of_refusal, cause_so_far}
use Rattle.acl_program.specs.Rehearsal.{IsRehearsal}
use Rattle.acl_program.specs.Endings.{ComesExactly, IsCausedBy, IsDue, IsMade, IsOrEarlier, IsReadFor}
use Rattle.acl_program.specs.Scripts.{HasScript, IsBadScript, IsTooMuch}
use Rattle.acl_program.specs.Streams.{IsCutBeyond, IsEndLeft, IsReadWhole, most_bytes}
use Rattle.acl_program.specs.declared.cause.Cause.{Cause}
use Rattle.acl_program.specs.declared.cause.Cause.TheVariants.{Fine, Usage, BadScript, ReadFault, WriteFault, NoMemory, Limit}
use Rattle.acl_program.specs.declared.input.InputFault.{InputFault}
use Rattle.acl_program.specs.declared.input.InputFault.TheVariants.{Failed, TooLong, NoMemory as NoMemoryForInput}
use Rattle.line_answers.specs.declared.report.Report.{Report}
use Rattle.grant_refusal.specs.declared.ParseRefusal.{ParseRefusal}
use Rattle.script_lines.specs.Refusals.{IsScriptRefusal, RefusesScript}
use Rattle.script_lines.specs.declared.refusal.ScriptRefusal.{ScriptRefusal}
use Rattle.script_lines.specs.declared.refusal.ScriptRefusal.TheVariants as script
use Rattle.script_lines.specs.declared.refusal.Which.{Which}
use Rattle.script_read.specs.Built.{IsBuiltCommand, IsBuiltRefusal}
use Rattle.script_run.specs.Forms.{is_built}
use Rattle.script_lines.specs.declared.refusal.Which.TheVariants.{Bytes, Lines, Sessions}

-- a read that failed, and want of memory, come before
pub due_fault : (left : Option (List ℕ)) → IfSome left (λ bytes. IsDue bytes ReadFault)
due_fault None = tt
due_fault (Some bytes) = record { bad = λ line refusal bad. inr (inl refl); limit = λ which number much. inr (inl refl) }

pub due_memory : (left : Option (List ℕ)) → IfSome left (λ bytes. IsDue bytes NoMemory)
due_memory None = tt
due_memory (Some bytes) = record { bad = λ line refusal bad. inr (inr refl); limit = λ which number much. inr (inr refl) }

beyond_bytes : (bytes : List ℕ) → most_bytes < length bytes → (which : Which) (number : ℕ) → IsTooMuch bytes which number → Limit Bytes most_bytes ≡ Limit which number
beyond_bytes bytes long Bytes number much = ap (Limit Bytes) (sym much.0)
beyond_bytes bytes long Lines number much = absurd (omega (arith, much.1))
beyond_bytes bytes long Sessions number much = absurd (omega (arith, much.1.bytes_are))

-- too many bytes are told before anything else of them
pub due_long : (left after : Option (List ℕ)) → IfSome left (λ bytes. IsCutBeyond most_bytes bytes after) → IfSome left (λ bytes. IsDue bytes (Limit Bytes most_bytes))
due_long None after cut = tt
due_long (Some bytes) after cut = record {
  bad = λ line refusal bad. absurd (omega (arith, cut.0, bad.within.bytes_are));
  limit = λ which number much. inl (beyond_bytes bytes cut.0 which number much);
}

same_refusal : {S : Type 0} (a b : ScriptRefusal) → let left : Result S ScriptRefusal = Err a in left ≡ Err b → a ≡ b
same_refusal a b e = cc

refused_so : {S : Type 0} (result : Result S ScriptRefusal) (refusal wanted : ScriptRefusal) → result ≡ Err refusal → RefusesScript result wanted
    → IsOrEarlier (cause_of_refusal refusal) (cause_of_refusal wanted)
refused_so result refusal wanted is (inl told) = inl (ap cause_of_refusal (same_refusal refusal wanted (sym is ∙ told)))
refused_so result refusal wanted is (inr none) = inr (inr (ap cause_of_refusal (same_refusal refusal script.NoMemory (sym is ∙ none))))

-- a refusal of the script's
pub due_refused : {S : Type 0} (bytes : List ℕ) (result : Result S ScriptRefusal) (refusal : ScriptRefusal) → result ≡ Err refusal
    → ((number : ℕ) (parse : ParseRefusal) → IsBadScript bytes number parse → RefusesScript result (script.BadLine number parse))
    → ((which : Which) (number : ℕ) → IsTooMuch bytes which number → RefusesScript result (script.Limit which number))
    → IsDue bytes (cause_of_refusal refusal)
due_refused bytes result refusal is bad limit = record {
  bad = λ line parse holds. refused_so result refusal (script.BadLine line parse) is (bad line parse holds);
  limit = λ which number much. refused_so result refusal (script.Limit which number) is (limit which number much);
}

not_refused : {S : Type 0} (result : Result S ScriptRefusal) (made : S) (wanted : ScriptRefusal) → result ≡ Ok made → RefusesScript result wanted → ⊥
not_refused {S} result made wanted is (inl told) = differ (sym is ∙ told)
  where
    differ : let left : Result S ScriptRefusal = Ok made in left ≡ Err wanted → ⊥
    differ e = cc
not_refused {S} result made wanted is (inr none) = differ (sym is ∙ none)
  where
    differ : let left : Result S ScriptRefusal = Ok made in left ≡ Err script.NoMemory → ⊥
    differ e = cc

-- a script that was read
pub due_read : {S : Type 0} (bytes : List ℕ) (result : Result S ScriptRefusal) (made : S) (cause : Cause) → result ≡ Ok made
    → ((number : ℕ) (parse : ParseRefusal) → IsBadScript bytes number parse → RefusesScript result (script.BadLine number parse))
    → ((which : Which) (number : ℕ) → IsTooMuch bytes which number → RefusesScript result (script.Limit which number))
    → IsDue bytes cause
due_read bytes result made cause is bad limit = record {
  bad = λ line parse holds. absurd (not_refused result made (script.BadLine line parse) is (bad line parse holds));
  limit = λ which number much. absurd (not_refused result made (script.Limit which number) is (limit which number much));
}

-- an end that is due comes exactly where its cause is there
pub bad_script_exactly : (left : Option (List ℕ)) (cause : Cause) → IfSome left (λ bytes. IsCausedBy bytes cause) → IfSome left (λ bytes. IsDue bytes cause)
    → IfSome left (λ bytes. (line : ℕ) (refusal : ParseRefusal) → ComesExactly cause (BadScript line refusal) (IsBadScript bytes line refusal))
bad_script_exactly None cause why due = tt
bad_script_exactly (Some bytes) cause why due =
    λ line refusal. record { only = λ e. subst (λ c. IsCausedBy bytes c) e why; always = λ holds. due.bad line refusal holds }

pub limit_exactly : (left : Option (List ℕ)) (cause : Cause) → IfSome left (λ bytes. IsCausedBy bytes cause) → IfSome left (λ bytes. IsDue bytes cause)
    → IfSome left (λ bytes. (which : Which) (number : ℕ) → ComesExactly cause (Limit which number) (IsTooMuch bytes which number))
limit_exactly None cause why due = tt
limit_exactly (Some bytes) cause why due =
    λ which number. record { only = λ e. subst (λ c. IsCausedBy bytes c) e why; always = λ holds. due.limit which number holds }

-- an end that is told as it came
pub caused_as : (left : Option (List ℕ)) (cause told : Cause) → told ≡ cause → IfSome left (λ bytes. IsCausedBy bytes cause) → IfSome left (λ bytes. IsCausedBy bytes told)
caused_as left cause told same why = subst (λ k. IfSome left (λ bytes. IsCausedBy bytes k)) (sym same) why

pub due_as : (left : Option (List ℕ)) (cause told : Cause) → told ≡ cause → IfSome left (λ bytes. IsDue bytes cause) → IfSome left (λ bytes. IsDue bytes told)
due_as left cause told same due = subst (λ k. IfSome left (λ bytes. IsDue bytes k)) (sym same) due

fine_differs : (line : ℕ) (refusal : ParseRefusal) → IsOrEarlier Fine (BadScript line refusal) → ⊥
fine_differs line refusal (inl e) = cc
fine_differs line refusal (inr (inl e)) = cc
fine_differs line refusal (inr (inr e)) = cc

fine_is_no_limit : (which : Which) (number : ℕ) → IsOrEarlier Fine (Limit which number) → ⊥
fine_is_no_limit which number (inl e) = cc
fine_is_no_limit which number (inr (inl e)) = cc
fine_is_no_limit which number (inr (inr e)) = cc

-- where all lines were run, any end is due
pub due_ended : (left : Option (List ℕ)) (cause : Cause) → IfSome left (λ bytes. IsDue bytes Fine) → IfSome left (λ bytes. IsDue bytes cause)
due_ended None cause due = tt
due_ended (Some bytes) cause due = record {
  bad = λ line refusal holds. absurd (fine_differs line refusal (due.bad line refusal holds));
  limit = λ which number much. absurd (fine_is_no_limit which number (due.limit which number much));
}

-- where nothing is left, an end of the bytes is left
left_later : (left after : Option (List ℕ)) → IfSome left (λ bytes. after ≡ Some []) → IfSome left (λ bytes. IsEndLeft bytes after)
left_later None after none = tt
left_later (Some bytes) after none = (length bytes, none ∙ ap Some (sym (drop-length bytes)))

pub read_for_later : (left after : Option (List ℕ)) (cause : Cause) → cause ≡ NoMemory → IfSome left (λ bytes. after ≡ Some []) → IfSome left (λ bytes. IsReadFor cause bytes after)
read_for_later left after cause same none = subst (λ k. IfSome left (λ bytes. IsReadFor k bytes after)) (sym same) (left_later left after none)

-- what holds of the bytes that were read holds of those that there were
pub of_whole : (left after : Option (List ℕ)) (read : List ℕ) (P : List ℕ → Type 0) → IfSome left (λ bytes. IsReadWhole bytes read after) → P read → IfSome left P
of_whole None after read P whole holds = tt
of_whole (Some bytes) after read P whole holds = subst P whole.0 holds

-- an end of bytes that were read has its cause
pub caused : (bytes : List ℕ) (cause : Cause) → IsMade bytes cause → IsCausedBy bytes cause
caused bytes Fine made = made
caused bytes Usage made = absurd made
caused bytes (BadScript line refusal) made = made
caused bytes ReadFault made = absurd made
caused bytes WriteFault made = absurd made
caused bytes NoMemory made = tt
caused bytes (Limit Bytes number) made = absurd made
caused bytes (Limit Lines number) made = made
caused bytes (Limit Sessions number) made = made

read_so : (bytes : List ℕ) (cause : Cause) (left : Option (List ℕ)) → left ≡ Some [] → IsMade bytes cause → IsReadFor cause bytes left
read_so bytes Fine left none made = none
read_so bytes Usage left none made = absurd made
read_so bytes (BadScript line refusal) left none made = none
read_so bytes ReadFault left none made = absurd made
read_so bytes WriteFault left none made = absurd made
read_so bytes NoMemory left none made = (length bytes, none ∙ ap Some (sym (drop-length bytes)))
read_so bytes (Limit Bytes number) left none made = absurd made
read_so bytes (Limit Lines number) left none made = none
read_so bytes (Limit Sessions number) left none made = none

-- and it was read to its end
pub read_whole_for : (left after : Option (List ℕ)) (read : List ℕ) (cause : Cause) → IfSome left (λ bytes. IsReadWhole bytes read after) → IsMade read cause
    → IfSome left (λ bytes. IsReadFor cause bytes after)
read_whole_for None after read cause whole made = tt
read_whole_for (Some bytes) after read cause whole made = read_so bytes cause after whole.1 (subst (λ b. IsMade b cause) whole.0 made)

-- no end of bytes that were read is one of these
pub made_otherwise : (bytes : List ℕ) (cause : Cause) → IsMade bytes cause → (cause ≡ Usage → ⊥) × ((cause ≡ ReadFault → ⊥) × (cause ≡ WriteFault → ⊥))
made_otherwise bytes cause made = (
  (λ e. subst (IsMade bytes) e made),
  ((λ e. subst (IsMade bytes) e made), (λ e. subst (IsMade bytes) e made)),
)

-- a refusal within the limit of bytes
pub made_refused : (bytes : List ℕ) (refusal : ScriptRefusal) → length bytes ≤ most_bytes → IsScriptRefusal (IsBuiltCommand is_built) (IsBuiltRefusal is_built) bytes refusal → IsMade bytes (cause_of_refusal refusal)
made_refused bytes (script.BadLine number parse) short refused = refused
made_refused bytes (script.Limit Bytes number) short refused = absurd (omega (arith, refused.1))
made_refused bytes (script.Limit Lines number) short refused = refused
made_refused bytes (script.Limit Sessions number) short refused = refused
made_refused bytes script.NoMemory short refused = tt

pub refusal_is_not_fine : (refusal : ScriptRefusal) → cause_of_refusal refusal ≡ Fine → ⊥
refusal_is_not_fine (script.BadLine number parse) e = cc
refusal_is_not_fine (script.Limit which number) e = cc
refusal_is_not_fine script.NoMemory e = cc

-- the report of bytes that were read is that of those that there were
pub rehearsed_whole : (result : Result Report Cause) (left after : Option (List ℕ)) (read given : List ℕ) → given ≡ read → IfSome left (λ bytes. IsReadWhole bytes read after)
    → IfOk result (IsRehearsal given) → IfOk result (λ report. IfSome left (λ bytes. IsRehearsal bytes report))
rehearsed_whole (Ok report) left after read given same whole is = of_whole left after read (λ bytes. IsRehearsal bytes report) whole (subst (λ b. IsRehearsal b report) same is)
rehearsed_whole (Err cause) left after read given same whole is = tt

pub err_otherwise : (result : Result Report Cause) (bytes : List ℕ) → IsMade bytes (cause_so_far result) → IfErr result (λ cause. cause ≡ Fine → ⊥)
    → IfErr result (λ cause. (cause ≡ Fine → ⊥) × (cause ≡ WriteFault → ⊥))
err_otherwise (Ok report) bytes made err = tt
err_otherwise (Err cause) bytes made err = (err, (made_otherwise bytes cause made).1.1)

-- an input that was not read
pub due_input : (left after : Option (List ℕ)) (fault : InputFault) → (fault ≡ TooLong → IfSome left (λ bytes. IsCutBeyond most_bytes bytes after))
    → IfSome left (λ bytes. IsDue bytes (cause_of_fault fault))
due_input left after Failed cut = due_fault left
due_input left after TooLong cut = due_long left after (cut refl)
due_input left after NoMemoryForInput cut = due_memory left
