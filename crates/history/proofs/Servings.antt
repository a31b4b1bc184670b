-- What an entry of a partition's word adds to what that partition served.
use Rattle.std.proofs.Common.{◌≡◌, ◌∙◌, ℕ, ◌+◌, ◌==◌, ◌&&◌, Bool, true, false, cond, List, [], ◌∷◌, ◌++◌, length, map, reverse, filter_map, slice_get, Option, Some, None, inr, refl, ap, sym, subst, arith}
use Rattle.std.specs.List.{cons_option}
use Rattle.std.proofs.lemmas.Bool.Decides.{nat_tests}
use Rattle.std.proofs.lemmas.List.Elements.{filter_map-append}
use mathlib.Core.List.{IsPrefix}
use Rattle.plain_store.specs.Replies.{reply_to}
use Rattle.plain_store.specs.declared.calls.Call.{Call}
use Rattle.history.specs.declared.entry.HistoryEntry.{HistoryEntry}
use Rattle.history.specs.declared.entry.HistoryEntry.TheVariants.{Opened, Joined, Arrived, Began, Decided, GivenUp, ReadBegan, Drew, Passed, Served}
use Rattle.history.specs.declared.entry.ServedCall.{ServedCall}
use Rattle.history.specs.Entries.{is_of, own, count, limits_of, room_in, room_of, served_to, served_at, calls_served, reply_in, StandsInHistory}
use Rattle.history.specs.Legal.{IsLegal}
use Rattle.history.specs.Rules.{IsAdded, IsOvertaken, TakesNoEntry, is_opening}
use Rattle.history.proofs.Counts.{count_later, count_more, own_same}

and_false : (a b : Bool) → b ≡ false → (a && b) ≡ false
and_false true b e = e
and_false false b e = refl

no_serving : (tenant partition : ℕ) (e : HistoryEntry) → is_of (partition + 1) e ≡ false → served_to tenant partition e ≡ None
no_serving tenant partition (Opened setting) is = refl
no_serving tenant partition (Joined member) is = refl
no_serving tenant partition (Arrived word) is = refl
no_serving tenant partition (Began write) is = refl
no_serving tenant partition (Decided decision) is = refl
no_serving tenant partition (GivenUp decision) is = refl
no_serving tenant partition (ReadBegan word) is = refl
no_serving tenant partition (Drew drawn) is = refl
no_serving tenant partition (Passed whose) is = refl
no_serving tenant partition (Served served) is =
    let other : (served.partition == partition) ≡ false = grind (arith, nat_tests, is) in
    ap (λ (b : Bool). cond b (Some served) None) (and_false (served.tenant == tenant) (served.partition == partition) other)

-- what a partition served stands among the entries of its word
pub served_own : (tenant partition : ℕ) (log : List HistoryEntry) → served_at tenant partition log ≡ filter_map (served_to tenant partition) (own (partition + 1) log)
served_own tenant partition [] = refl
served_own tenant partition (e ∷ log) = go (is_of (partition + 1) e) refl (served_own tenant partition log)
  where
    f : HistoryEntry → Option ServedCall
    f = served_to tenant partition

    go : (b : Bool) → is_of (partition + 1) e ≡ b → filter_map f log ≡ filter_map f (own (partition + 1) log)
        → filter_map f (e ∷ log) ≡ filter_map f (cond b (e ∷ own (partition + 1) log) (own (partition + 1) log))
    go true is rest = ap (cons_option (f e)) rest
    go false is rest = ap (λ (o : Option ServedCall). cons_option o (filter_map f log)) (no_serving tenant partition e is) ∙ rest

-- a history with as many entries of the word has the same servings
pub served_same : (tenant partition : ℕ) (v log : List HistoryEntry) → IsPrefix v log → count (partition + 1) v ≡ count (partition + 1) log
    → served_at tenant partition v ≡ served_at tenant partition log
served_same tenant partition v log pre same =
    served_own tenant partition v ∙ ap (filter_map (served_to tenant partition)) (own_same (partition + 1) v log pre same)
    ∙ sym (served_own tenant partition log)

-- one more was served
pub served_added : (tenant partition entries : ℕ) (served : ServedCall) (seen now : List HistoryEntry) → served.partition ≡ partition
    → count (partition + 1) seen ≡ entries → IsAdded (partition + 1) entries (Served served) seen now
    → served_at tenant partition now ≡ served_at tenant partition seen ++ cons_option (served_to tenant partition (Served served)) []
served_added tenant partition entries served seen now its counted a =
    let f = served_to tenant partition in
    let before = seen ++ a.0 in
    let same : served_at tenant partition seen ≡ served_at tenant partition before =
    served_same tenant partition seen before (a.0, refl) (counted ∙ sym a.2) in
    ap (served_at tenant partition) a.1 ∙ filter_map-append f before (Served served ∷ [])
    ∙ ap (λ l. l ++ cons_option (f (Served served)) []) (sym same)

limits_later : (v log : List HistoryEntry) → IsLegal v → IsPrefix v log → limits_of v ≡ limits_of log
limits_later v log legal pre =
    let whole : Opened legal.setting ∷ (legal.rest ++ pre.0) ≡ log = ap (λ l. l ++ pre.0) (sym legal.opens) ∙ pre.1 in
    ap limits_of legal.opens ∙ ap limits_of whole

pub room_later : (v log : List HistoryEntry) (tenant : ℕ) → IsLegal v → IsPrefix v log → room_of v tenant ≡ room_of log tenant
room_later v log tenant legal pre = ap (λ limits. room_in (slice_get limits tenant)) (limits_later v log legal pre)

-- the call that was added stands in the history, at the next place and with the reply after what was served before
pub is_served : (entries : ℕ) (served : ServedCall) (seen now : List HistoryEntry) → IsLegal seen → count (served.partition + 1) seen ≡ entries
    → (a : IsAdded (served.partition + 1) entries (Served served) seen now)
    → (s : StandsInHistory now served (length (calls_served served.tenant served.partition seen) + 1) (reply_in seen served.tenant served.partition served.call)) × (s.before ≡ seen ++ a.0)
is_served entries served seen now legal counted a =
    let before = seen ++ a.0 in
    let same : served_at served.tenant served.partition seen ≡ served_at served.tenant served.partition before =
    served_same served.tenant served.partition seen before (a.0, refl) (counted ∙ sym a.2) in
    let calls : calls_served served.tenant served.partition seen ≡ calls_served served.tenant served.partition before =
    ap (λ (l : List ServedCall). reverse (map (λ (s : ServedCall). s.call) l)) same in
    let room = room_later seen before served.tenant legal (a.0, refl) in (
      record {
        before = before;
        after = [];
        stands = a.1;
        place_is = ap (λ (l : List Call). length l + 1) calls;
        reply_is = ap (λ r. reply_to r (calls_served served.tenant served.partition seen) served.call) room
            ∙ ap (λ (l : List Call). reply_to (room_of before served.tenant) l served.call) calls;
      },
      refl,
    )

-- where what was found of the history has other entries of the word than were counted, it takes none
pub none_taken : (k entries : ℕ) (seen start now : List HistoryEntry) → start ≡ seen → count k seen ≡ entries → IsPrefix start now → IsOvertaken k entries now → TakesNoEntry k seen now
none_taken k entries seen start now same counted pre other =
    let first : IsPrefix seen now = subst (λ (l : List HistoryEntry). IsPrefix l now) same pre in
    inr (first, omega (arith, count_later k seen now first, counted, other.0))

-- the word has one entry more
pub added_count : (k entries : ℕ) (e : HistoryEntry) (seen now : List HistoryEntry) → is_of k e ≡ true → IsAdded k entries e seen now → count k now ≡ entries + 1
added_count k entries e seen now its a =
    ap (count k) a.1 ∙ count_more k (seen ++ a.0) e its ∙ ap (λ (n : ℕ). n + 1) a.2

-- no word has an entry where a store was just opened
pub opened_count : (k : ℕ) (log : List HistoryEntry) → is_opening log ≡ true → count k log ≡ 0
opened_count k [] is = refl
opened_count k (Opened setting ∷ []) is = refl
opened_count k (Opened setting ∷ (e ∷ log)) is = absurd (cc is)
opened_count k (Joined member ∷ log) is = absurd (cc is)
opened_count k (Arrived word ∷ log) is = absurd (cc is)
opened_count k (ReadBegan word ∷ log) is = absurd (cc is)
opened_count k (Drew drawn ∷ log) is = absurd (cc is)
opened_count k (Passed tenant ∷ log) is = absurd (cc is)
opened_count k (Began write ∷ log) is = absurd (cc is)
opened_count k (Decided decision ∷ log) is = absurd (cc is)
opened_count k (GivenUp decision ∷ log) is = absurd (cc is)
opened_count k (Served served ∷ log) is = absurd (cc is)
