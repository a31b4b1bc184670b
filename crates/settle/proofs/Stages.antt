-- What a transcript still gives, one item further.
use Rattle.std.proofs.Common.{◌≡◌, ◌⊎◌, inl, inr, ◌<◌, ◌+◌, ℕ, zero, suc, List, [], ◌∷◌, drop, get_or, length, slice_get, Option, Some, None, refl, sym, ap, ◌∙◌, subst}
use Rattle.std.proofs.lemmas.List.{drop_more}
use Rattle.entry_list.specs.declared.kinds.Entry.{Entry}
use Rattle.entry_list.specs.declared.kinds.Entry.TheVariants.{Began, Took, Answered}
use Rattle.closed_store.specs.declared.transcript.Transcript.{Transcript}
use Rattle.settle.specs.declared.progress.TranscriptState.{TranscriptState}
use Rattle.settle.specs.declared.progress.TranscriptState.TheVariants.{Waiting, Open, Over}
use Rattle.settle.specs.Words.{Answer, Lose, Ready}
use Rattle.settle.specs.Program.{TranscriptItem, Greets, Begins, Takes, Leaves, reply_taken, doing_of, noted, items_of}
use Rattle.settle.specs.Standing.{AreAll, IsNoted, Advances, IsCompared, rest_of}
use Rattle.std.specs.Prelude.{option_and_then}
use Rattle.std.specs.Option.{option_map}
use Rattle.entry_list.specs.declared.kinds.Taken.{Taken}
use Rattle.entry_list.specs.PackedEntries.{taken_of}
use Rattle.settle.proofs.Words.{some_is}
use Rattle.settle.proofs.Transcripts.{next-rest}
use Rattle.settle.proofs.Entries.{all_rest}

-- the item that an entry begins, with what follows
pub record Follows (entry : Entry) (rest : List Entry) (item : TranscriptItem) : Type 0 where
  pub noted : item.noted ≡ noted rest
  pub after : drop 1 (items_of (entry ∷ rest)) ≡ items_of rest

follows : (entry : Entry) (rest : List Entry) (item : TranscriptItem) → noted (entry ∷ rest) ≡ [] → slice_get (items_of (entry ∷ rest)) 0 ≡ Some item → Follows entry rest item
follows (Began act) rest item none at = record { noted = ap (λ (i : TranscriptItem). i.noted) (sym (some_is (record { doing = Begins act; noted = noted rest }) item at)); after = refl }
follows (Took number partition place reply) rest item none at = record { noted = ap (λ (i : TranscriptItem). i.noted) (sym (some_is (record { doing = Takes number partition place reply; noted = noted rest }) item at)); after = refl }
follows (Answered answer) rest item none at = absurd (let bad : answer ∷ noted rest ≡ [] = none in cc)

-- the reply that was taken at a place is that of the item there
pub reply_there : (entries : List Entry) (read : ℕ) (item : TranscriptItem) (found : Option Taken) → found ≡ option_and_then taken_of (slice_get entries read) → noted (drop read entries) ≡ [] → slice_get (items_of (drop read entries)) 0 ≡ Some item
    → option_map (λ (t : Taken). t.reply) found ≡ reply_taken item.doing
reply_there entries read item found is none at =
    ap (λ o. option_map (λ (t : Taken). t.reply) o) (is ∙ ap (option_and_then taken_of) (next-rest entries read)) ∙ go (drop read entries) none at
  where
    go : (rest : List Entry) → noted rest ≡ [] → slice_get (items_of rest) 0 ≡ Some item → option_map (λ (t : Taken). t.reply) (option_and_then taken_of (slice_get rest 0)) ≡ reply_taken item.doing
    go [] empty first = ap (λ (i : TranscriptItem). reply_taken i.doing) (some_is (record { doing = Leaves; noted = [] }) item first)
    go (Began act ∷ later) empty first = ap (λ (i : TranscriptItem). reply_taken i.doing) (some_is (record { doing = Begins act; noted = noted later }) item first)
    go (Took number partition place reply ∷ later) empty first = ap (λ (i : TranscriptItem). reply_taken i.doing) (some_is (record { doing = Takes number partition place reply; noted = noted later }) item first)
    go (Answered answer ∷ later) empty first = absurd (let bad : answer ∷ noted later ≡ [] = empty in cc)

-- ---- one item further

pub record GoesOn (entries : List Entry) (read : ℕ) (item : TranscriptItem) : Type 0 where
  pub noted : item.noted ≡ noted (drop (read + 1) entries)
  pub after : drop 1 (items_of (drop read entries)) ≡ items_of (drop (read + 1) entries)

pub goes_on : (entries : List Entry) (read : ℕ) (item : TranscriptItem) → read < length entries → noted (drop read entries) ≡ [] → slice_get (items_of (drop read entries)) 0 ≡ Some item → GoesOn entries read item
goes_on entries read item within none at =
    let entry = get_or entries read (Began (Lose 0)) in
    let here : drop read entries ≡ entry ∷ drop (read + 1) entries = drop_more entries read (Began (Lose 0)) within in
    let f = follows entry (drop (read + 1) entries) item (ap noted (sym here) ∙ none) (ap (λ es. slice_get (items_of es) 0) (sym here) ∙ at) in
    record { noted = f.noted; after = ap (λ es. drop 1 (items_of es)) here ∙ f.after }

-- a stage that has so many entries read
pub opened : (transcript : Transcript) (stage : TranscriptState) (read : ℕ) (item : TranscriptItem) (answer : Answer) (next : ℕ) → stage ≡ Open read → read < length transcript.entries.items
    → IsNoted transcript.entries.items (read + 1) answer next → IsCompared transcript stage → slice_get (rest_of transcript stage) 0 ≡ Some item → Advances transcript stage item answer (Open next)
opened transcript stage read item answer next is within found compared at =
    let g = goes_on transcript.entries.items read item within (subst (IsCompared transcript) is compared) (ap (λ s. slice_get (rest_of transcript s) 0) (sym is) ∙ at) in
    record {
      all = subst (AreAll answer) (sym g.noted) found.all;
      rest = ap (λ s. drop 1 (rest_of transcript s)) is ∙ g.after ∙ sym found.same;
      compared = found.none;
    }

pub open_differs : (transcript : Transcript) (stage : TranscriptState) (read : ℕ) (item : TranscriptItem) (answer : Answer) → stage ≡ Open read → read < length transcript.entries.items
    → (AreAll answer (noted (drop (read + 1) transcript.entries.items)) → ⊥) → IsCompared transcript stage → slice_get (rest_of transcript stage) 0 ≡ Some item → AreAll answer item.noted → ⊥
open_differs transcript stage read item answer is within differs compared at all =
    let g = goes_on transcript.entries.items read item within (subst (IsCompared transcript) is compared) (ap (λ s. slice_get (rest_of transcript s) 0) (sym is) ∙ at) in
    differs (subst (AreAll answer) g.noted all)

pub waiting_differs : (transcript : Transcript) (stage : TranscriptState) (item : TranscriptItem) (answer : Answer) → stage ≡ Waiting → (AreAll answer (noted transcript.entries.items) → ⊥)
    → slice_get (rest_of transcript stage) 0 ≡ Some item → AreAll answer item.noted → ⊥
waiting_differs transcript stage item answer is differs at all =
    let first : TranscriptItem = record { doing = Greets; noted = Ready transcript.counter ∷ noted transcript.entries.items } in
    let same : first ≡ item = some_is first item (ap (λ s. slice_get (rest_of transcript s) 0) (sym is) ∙ at) in
    differs (all_rest answer (Ready transcript.counter) (noted transcript.entries.items) (subst (AreAll answer) (ap (λ (i : TranscriptItem). i.noted) (sym same)) all))

-- ---- what an entry does comes next, where no answer is noted before it

first_does : (entry : Entry) (rest : List Entry) (item : TranscriptItem) → noted (entry ∷ rest) ≡ [] → slice_get (items_of (entry ∷ rest)) 0 ≡ Some item → doing_of entry ≡ Some item.doing
first_does (Began act) rest item none next = ap (λ (i : TranscriptItem). Some i.doing) (some_is (record { doing = Begins act; noted = noted rest }) item next)
first_does (Took number partition place reply) rest item none next = ap (λ (i : TranscriptItem). Some i.doing) (some_is (record { doing = Takes number partition place reply; noted = noted rest }) item next)
first_does (Answered answer) rest item none next = absurd (let bad : answer ∷ noted rest ≡ [] = none in cc)

pub does : (entries : List Entry) (read : ℕ) (entry : Entry) (item : TranscriptItem) → slice_get entries read ≡ Some entry → noted (drop read entries) ≡ [] → slice_get (items_of (drop read entries)) 0 ≡ Some item
    → doing_of entry ≡ Some item.doing
does [] read entry item at none next = absurd (let bad : None ≡ Some entry = at in cc)
does (first ∷ entries) zero entry item at none next = ap doing_of (sym (some_is first entry at)) ∙ first_does first entries item none next
does (first ∷ entries) (suc read) entry item at none next = does entries read entry item at none next

-- a transcript of which nothing was taken greets, and one of which all was taken gives nothing
pub no_reply_first : (transcript : Transcript) (stage : TranscriptState) (item : TranscriptItem) → (stage ≡ Waiting) ⊎ (stage ≡ Over) → slice_get (rest_of transcript stage) 0 ≡ Some item → None ≡ reply_taken item.doing
no_reply_first transcript stage item (inl is) at =
    ap (λ (i : TranscriptItem). reply_taken i.doing) (some_is (record { doing = Greets; noted = Ready transcript.counter ∷ noted transcript.entries.items }) item (ap (λ s. slice_get (rest_of transcript s) 0) (sym is) ∙ at))
no_reply_first transcript stage item (inr is) at = absurd (let bad : None ≡ Some item = ap (λ s. slice_get (rest_of transcript s) 0) (sym is) ∙ at in cc)
