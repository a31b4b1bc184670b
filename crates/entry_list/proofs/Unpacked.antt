-- That a packed entry is read again, and lists of packed entries.
use Rattle.std.proofs.Common.{◌≡◌, ℕ, zero, suc, List, [], ◌∷◌, ◌++◌, length, drop, take, Option, Some, None, refl, sym, ap, subst, ◌∙◌, append_assoc, Bool, true, false, cond, ltb}
use Rattle.std.specs.Prelude.{slice_get}
use Rattle.std.specs.Int.{w64, to_le_bytes}
use Rattle.std.specs.Option.{option_map}
use Rattle.std.proofs.lemmas.List.{append-nil}
use Rattle.std.proofs.Math.Seq.{drop-append_seam, take-append_seam}
use Rattle.plain_store.specs.declared.calls.Reply.{Reply}
use Rattle.plain_store.specs.declared.step.Act.{Act}
use Rattle.plain_store.specs.declared.step.Act.TheVariants.{Hello}
use Rattle.plain_store.specs.declared.answer.Answer.{Answer}
use Rattle.packed.specs.Packing.{packed_number}
use Rattle.packed_steps.specs.PackedCalls.{packed_reply, IsStoreReply}
use Rattle.packed.specs.Reading.{◌>>=◌, byte_at}
use Rattle.packed_steps.specs.PackedCalls.{reply_at}
use Rattle.packed_steps.specs.PackedActs.{packed_act, IsStoreAct, act_at}
use Rattle.packed_steps.specs.PackedAnswers.{packed_answer, IsStoreAnswer, answer_at}
use Rattle.packed.proofs.Texts.{number_again, count_again}
use Rattle.packed_steps.proofs.Replies.{reply_again}
use Rattle.packed_steps.proofs.Acts.{act_again}
use Rattle.packed_steps.proofs.AnswersAgain.{answer_again}
use Rattle.entry_list.specs.declared.kinds.Taken.{Taken}
use Rattle.entry_list.specs.declared.kinds.Operation.{Operation}
use Rattle.entry_list.specs.declared.kinds.Entry.{Entry}
use Rattle.entry_list.specs.declared.kinds.Entry.TheVariants.{Began, Took, Answered}
use Rattle.entry_list.specs.PackedEntries.{packed_entry, IsStoreTaken, IsStoreEntry, began_at, taken_at, took_at, answered_at, entry_by, entry_at, taken_of, taken_part, answer_of, answer_alone, answer_part, operation_of, operation_of_act, operation_part, entry_in, IsPackedEntry, ArePackedEntries, entries_in}

-- ---- one entry

act_alone : (act : Act) → IsStoreAct act → act_at (packed_act act) ≡ Some (act, [])
act_alone act h = ap act_at (sym (append-nil (packed_act act))) ∙ act_again act [] h

reply_alone : (reply : Reply) → IsStoreReply reply → reply_at (packed_reply reply) ≡ Some (reply, [])
reply_alone reply h = ap reply_at (sym (append-nil (packed_reply reply))) ∙ reply_again reply [] h

said_alone : (answer : Answer) → IsStoreAnswer answer → answer_at (packed_answer answer) ≡ Some (answer, [])
said_alone answer h = ap answer_at (sym (append-nil (packed_answer answer))) ∙ answer_again answer [] h

parted : (a b c d : List ℕ) → a ++ b ++ c ++ d ≡ a ++ (b ++ (c ++ d))
parted a b c d = simp append_assoc

abbrev taken_bytes : Taken → List ℕ
taken_bytes t = packed_number t.number ++ packed_number t.partition ++ packed_number t.place ++ packed_reply t.reply

taken_again : (t : Taken) → IsStoreTaken t → taken_at (taken_bytes t) ≡ Some t
unfolding taken_at
taken_again t h =
    ap taken_at (parted (packed_number t.number) (packed_number t.partition) (packed_number t.place) (packed_reply t.reply))
    ∙ rw (
      number_again t.number (packed_number t.partition ++ (packed_number t.place ++ packed_reply t.reply)) h.number,
      count_again t.partition (packed_number t.place ++ packed_reply t.reply) h.partition,
      number_again t.place (packed_reply t.reply) h.place,
      reply_alone t.reply h.reply,
    ) refl

took_again : (t : Taken) → IsStoreTaken t → took_at (taken_bytes t) ≡ Some (Took t.number t.partition t.place t.reply)
unfolding took_at
took_again t h = rw (taken_again t h) refl

pub entry_again : (e : Entry) → IsStoreEntry e → entry_at (packed_entry e) ≡ Some e
unfolding entry_at entry_by began_at answered_at
entry_again (Began act) h = rw (act_alone act h) refl
entry_again (Took number partition place reply) h = took_again (record { number = number; partition = partition; place = place; reply = reply }) h
entry_again (Answered answer) h = rw (said_alone answer h) refl

-- ---- what was taken and answered

taken_found : (e : Entry) → IsStoreEntry e → taken_part (packed_entry e) ≡ taken_of e
unfolding taken_part
taken_found (Began act) h = refl
taken_found (Took number partition place reply) h = taken_again (record { number = number; partition = partition; place = place; reply = reply }) h
taken_found (Answered answer) h = refl

answer_found : (e : Entry) → IsStoreEntry e → answer_part (packed_entry e) ≡ answer_of e
unfolding answer_part answer_alone
answer_found (Began act) h = refl
answer_found (Took number partition place reply) h = refl
answer_found (Answered answer) h = rw (said_alone answer h) refl

-- an entry of no operation
no_operation : (form : ℕ) (bytes : List ℕ) → operation_part (1 ∷ form ∷ bytes) ≡ None
unfolding operation_part
no_operation form bytes = refl

none_of_number : (n : ℕ) (bytes : List ℕ) → operation_part (1 ∷ (packed_number n ++ bytes)) ≡ None
none_of_number n bytes = go (ltb n 255)
  where
    go : (b : Bool) → operation_part (1 ∷ (cond b (n ∷ []) (255 ∷ to_le_bytes w64 n) ++ bytes)) ≡ None
    go true = no_operation n bytes
    go false = no_operation 255 (to_le_bytes w64 n ++ bytes)

abbrev nothing : Option Operation
nothing = None

none_of_answer : (answer : Answer) → operation_part (2 ∷ packed_answer answer) ≡ None
unfolding operation_part
none_of_answer answer = go (byte_at (packed_answer answer))
  where
    go : (o : Option (ℕ × List ℕ)) → (o >>= λ form. nothing) ≡ nothing
    go None = refl
    go (Some x) = refl

operation_found_act : (act : Act) → operation_part (0 ∷ packed_act act) ≡ operation_of_act act
unfolding operation_part
operation_found_act (Hello client base) = refl
operation_found_act act = refl

operation_found : (e : Entry) → operation_part (packed_entry e) ≡ operation_of e
operation_found (Began act) = operation_found_act act
operation_found (Took number partition place reply) =
    ap (λ (b : List ℕ). operation_part (1 ∷ b)) (parted (packed_number number) (packed_number partition) (packed_number place) (packed_reply reply))
    ∙ none_of_number number (packed_number partition ++ (packed_number place ++ packed_reply reply))
operation_found (Answered answer) = none_of_answer answer

pub operation_is : (bytes : List ℕ) → IsPackedEntry bytes → operation_part bytes ≡ operation_of (entry_in bytes)
operation_is bytes h = ap operation_part h.1 ∙ operation_found (entry_in bytes)

pub found_again : (bytes : List ℕ) → IsPackedEntry bytes → entry_at bytes ≡ Some (entry_in bytes)
found_again bytes h = ap entry_at h.1 ∙ entry_again (entry_in bytes) h.0

pub taken_is : (bytes : List ℕ) → IsPackedEntry bytes → taken_part bytes ≡ taken_of (entry_in bytes)
taken_is bytes h = ap taken_part h.1 ∙ taken_found (entry_in bytes) h.0

pub answer_is : (bytes : List ℕ) → IsPackedEntry bytes → answer_part bytes ≡ answer_of (entry_in bytes)
answer_is bytes h = ap answer_part h.1 ∙ answer_found (entry_in bytes) h.0

-- ---- lists of packed entries

entry_is : (e : Entry) (bytes : List ℕ) → IsStoreEntry e → bytes ≡ packed_entry e → entry_in bytes ≡ e
entry_is e bytes h is = rw (is, entry_again e h) refl

pub is_packed : (e : Entry) (bytes : List ℕ) → IsStoreEntry e → bytes ≡ packed_entry e → IsPackedEntry bytes
is_packed e bytes h is =
    let same = entry_is e bytes h is in
    (subst IsStoreEntry (sym same) h, is ∙ ap packed_entry (sym same))

pub one_more : (pieces : List (List ℕ)) (bytes : List ℕ) → ArePackedEntries pieces → IsPackedEntry bytes → ArePackedEntries (pieces ++ bytes ∷ [])
one_more [] bytes all h = (h, tt)
one_more (piece ∷ pieces) bytes all h = (all.0, one_more pieces bytes all.1 h)

pub entries_once_more : (pieces : List (List ℕ)) (bytes : List ℕ) → entries_in (pieces ++ bytes ∷ []) ≡ entries_in pieces ++ entry_in bytes ∷ []
entries_once_more [] bytes = refl
entries_once_more (piece ∷ pieces) bytes = ap (λ (xs : List Entry). entry_in piece ∷ xs) (entries_once_more pieces bytes)

-- the same of bytes that were packed of an entry
pub grown : (pieces new : List (List ℕ)) (e : Entry) (bytes : List ℕ) → IsStoreEntry e → bytes ≡ packed_entry e → new ≡ pieces ++ bytes ∷ [] → entries_in new ≡ entries_in pieces ++ e ∷ []
grown pieces new e bytes h is more =
    ap entries_in more ∙ entries_once_more pieces bytes ∙ ap (λ (x : Entry). entries_in pieces ++ x ∷ []) (entry_is e bytes h is)

pub still_packed : (pieces new : List (List ℕ)) (e : Entry) (bytes : List ℕ) → ArePackedEntries pieces → IsStoreEntry e → bytes ≡ packed_entry e → new ≡ pieces ++ bytes ∷ [] → ArePackedEntries new
still_packed pieces new e bytes all h is more =
    subst ArePackedEntries (sym more) (one_more pieces bytes all (is_packed e bytes h is))

-- the same of two entries
module _ (pieces mid new : List (List ℕ)) (one two : Entry) (first second : List ℕ) (first_stored : IsStoreEntry one) (second_stored : IsStoreEntry two)
    (first_is : first ≡ packed_entry one) (second_is : second ≡ packed_entry two) (first_pushed : mid ≡ pieces ++ first ∷ []) (second_pushed : new ≡ mid ++ second ∷ []) where
  pub grown_twice : entries_in new ≡ entries_in pieces ++ one ∷ two ∷ []
  grown_twice =
      grown mid new two second second_stored second_is second_pushed ∙ ap (λ (es : List Entry). es ++ two ∷ []) (grown pieces mid one first first_stored first_is first_pushed)
      ∙ append_assoc (entries_in pieces) (one ∷ []) (two ∷ [])

  pub packed_twice : ArePackedEntries pieces → ArePackedEntries new
  packed_twice all = still_packed mid new two second (still_packed pieces mid one first all first_stored first_is first_pushed) second_stored second_is second_pushed

-- bytes that are cut where their first part ends
module _ (whole a b : List ℕ) (n : ℕ) (is : whole ≡ a ++ b) (ends : n ≡ length a) where
  pub front_is : take n whole ≡ a
  front_is = ap (λ (k : ℕ). take k whole) ends ∙ ap (take (length a)) is ∙ take-append_seam a b

  pub back_is : drop n whole ≡ b
  back_is = ap (λ (k : ℕ). drop k whole) ends ∙ ap (drop (length a)) is ∙ drop-append_seam a b

pub as_many : (pieces : List (List ℕ)) → length (entries_in pieces) ≡ length pieces
as_many [] = refl
as_many (piece ∷ pieces) = ap suc (as_many pieces)

pub packed_there : (pieces : List (List ℕ)) (at : ℕ) (bytes : List ℕ) → ArePackedEntries pieces → Some bytes ≡ slice_get pieces at → IsPackedEntry bytes
packed_there [] at bytes all is = absurd (cc)
packed_there (piece ∷ pieces) zero bytes all is = let same : piece ≡ bytes = cc in subst IsPackedEntry same all.0
packed_there (piece ∷ pieces) (suc at) bytes all is = packed_there pieces at bytes all.1 is

pub entry_there : (pieces : List (List ℕ)) (at : ℕ) → slice_get (entries_in pieces) at ≡ option_map entry_in (slice_get pieces at)
entry_there [] at = refl
entry_there (piece ∷ pieces) zero = refl
entry_there (piece ∷ pieces) (suc at) = entry_there pieces at
