-- What a client has of the history, from one step to the next.
use Rattle.std.proofs.Common.{◌≡◌, ◌∙◌, ℕ, ◌+◌, ◌^◌, ◌<◌, ◌≤◌, ◌⊎◌, ◌↔◌, Bool, true, false, List, [], ◌∷◌, ◌++◌, length, length-append, ⊎_elim, inl, inr, refl, ap, sym, subst, arith, append_assoc}
use Rattle.std.specs.Prelude.{IsTrue}
use Rattle.std.proofs.lemmas.Bool.{both_ways}
use Rattle.std.proofs.lemmas.Bool.Decides.{eqb_tells}
use mathlib.Core.List.{IsPrefix}
use Rattle.stamps.specs.Limits.{max_parts}
use Rattle.stamps.specs.Stamp.{client_of}
use Rattle.plain_store.specs.Words.{◌∈◌}
use Rattle.plain_store.proofs.Members.{in_cases, in_left}
use Rattle.history.specs.declared.entry.HistoryEntry.{HistoryEntry}
use Rattle.history.specs.declared.entry.HistoryEntry.TheVariants.{Joined, Arrived, Began, Decided, GivenUp, ReadBegan}
use Rattle.history.specs.declared.entry.Decision.{Decision}
use Rattle.history.specs.declared.entry.Mark.{Mark}
use Rattle.history.specs.declared.entry.Write.{Write}
use Rattle.history.specs.Entries.{but_last, is_of, own, count}
use Rattle.history.specs.Legal.{MayBegin, MayEnd}
use Rattle.history.specs.Rules.{IsAdded}
use Rattle.history.proofs.Counts.{count_later, equal_test, own_append, own_one, own_same}
use Rattle.history.proofs.Lists.{last_in, prefix_has, prefix_join, prefix_of_itself, prefix_of_more, prefixes_compare}
use Rattle.history.proofs.Steps.{before_added}
use Rattle.traced_client.specs.Clients.{CannotBegin, CannotEnd, ClientTrace, HasReadEntry, HasWith, IsTracedClient}

-- the entry is behind those of the word that were seen
pub own_added : (k entries : ℕ) (e : HistoryEntry) (seen now : List HistoryEntry) → is_of k e ≡ true → count k seen ≡ entries → IsAdded k entries e seen now
    → own k now ≡ own k seen ++ e ∷ []
own_added k entries e seen now its counted a =
    ap (own k) a.1 ∙ own_append k (seen ++ a.0) (e ∷ [])
    ∙ ap (λ (l : List HistoryEntry). l ++ own k (e ∷ [])) (sym (own_same k seen (seen ++ a.0) (a.0, refl) (counted ∙ sym a.2)))
    ∙ ap (λ (l : List HistoryEntry). own k seen ++ l) (own_one k e its)

pub added_later : (k entries : ℕ) (e : HistoryEntry) (seen now : List HistoryEntry) → IsAdded k entries e seen now → IsPrefix seen now
added_later k entries e seen now a = (a.0 ++ e ∷ [], sym (append_assoc seen a.0 (e ∷ [])) ∙ sym a.1)

pub added_in : (k entries : ℕ) (e : HistoryEntry) (seen now : List HistoryEntry) → IsAdded k entries e seen now → e ∈ now
added_in k entries e seen now a = subst (λ (l : List HistoryEntry). e ∈ l) (sym a.1) (last_in (seen ++ a.0) e)

added_some : (k entries : ℕ) (e : HistoryEntry) (seen now : List HistoryEntry) → is_of k e ≡ true → count k seen ≡ entries → IsAdded k entries e seen now → 0 < count k now
added_some k entries e seen now its counted a =
    let all : count k now ≡ length (own k seen ++ e ∷ []) = ap length (own_added k entries e seen now its counted a) in
    omega (arith, all, length-append (own k seen) (e ∷ []))

-- a write may begin above the client's last one
pub may_begin : (write : Write) (client last : ℕ) (is_open : Bool) (seen : List HistoryEntry) → IsTracedClient write.word write.tenant client last is_open seen
    → client_of write.stamp ≡ client → last < write.stamp → MayBegin (own write.word seen) seen write
may_begin write client last is_open seen its same higher = record {
  joined = subst (λ (c : ℕ). Joined (record { word = write.word; tenant = write.tenant; client = c }) ∈ seen) (sym same) its.joined;
  above = λ other has. omega (arith, its.above other has, higher);
}

-- an entry of the word is one of those before, or the last
own_cases : (k entries : ℕ) (e d : HistoryEntry) (seen now : List HistoryEntry) → is_of k e ≡ true → count k seen ≡ entries → IsAdded k entries e seen now
    → d ∈ own k now → (d ∈ own k seen) ⊎ (d ≡ e)
own_cases k entries e d seen now its counted a has =
    go (in_cases (own k seen) (e ∷ []) d (subst (λ (l : List HistoryEntry). d ∈ l) (own_added k entries e seen now its counted a) has))
  where
    go : (d ∈ own k seen) ⊎ (d ∈ (e ∷ [])) → (d ∈ own k seen) ⊎ (d ≡ e)
    go (inl before) = inl before
    go (inr (inl same)) = inr same
    go (inr (inr none)) = absurd none

-- the end of a put is one of those before, or the last entry
end_cases : (k entries : ℕ) (e : HistoryEntry) (d : Decision) (seen now : List HistoryEntry) → is_of k e ≡ true → count k seen ≡ entries → IsAdded k entries e seen now
    → (Decided d ∈ own k now) ⊎ (GivenUp d ∈ own k now) → ((Decided d ∈ own k seen) ⊎ (GivenUp d ∈ own k seen)) ⊎ ((Decided d ≡ e) ⊎ (GivenUp d ≡ e))
end_cases k entries e d seen now its counted a (inl has) = go (own_cases k entries e (Decided d) seen now its counted a has)
  where
    go : (Decided d ∈ own k seen) ⊎ (Decided d ≡ e) → ((Decided d ∈ own k seen) ⊎ (GivenUp d ∈ own k seen)) ⊎ ((Decided d ≡ e) ⊎ (GivenUp d ≡ e))
    go (inl before) = inl (inl before)
    go (inr same) = inr (inl same)
end_cases k entries e d seen now its counted a (inr has) = go (own_cases k entries e (GivenUp d) seen now its counted a has)
  where
    go : (GivenUp d ∈ own k seen) ⊎ (GivenUp d ≡ e) → ((Decided d ∈ own k seen) ⊎ (GivenUp d ∈ own k seen)) ⊎ ((Decided d ≡ e) ⊎ (GivenUp d ≡ e))
    go (inl before) = inl (inr before)
    go (inr same) = inr (inr same)

-- a put that may end may so behind an entry that ends none
end_later : (k entries : ℕ) (e : HistoryEntry) (d : Decision) (seen now : List HistoryEntry) → is_of k e ≡ true → count k seen ≡ entries → IsAdded k entries e seen now
    → ((other : Decision) → (Decided other ≡ e) ⊎ (GivenUp other ≡ e) → ⊥) → MayEnd (own k seen) d → MayEnd (own k now) d
end_later k entries e d seen now its counted a none may = record {
  write = may.write;
  began = subst (λ (l : List HistoryEntry). Began may.write ∈ l) (sym (own_added k entries e seen now its counted a)) (in_left (own k seen) (e ∷ []) (Began may.write) may.began);
  its = may.its;
  unended = λ other has same. go other same (end_cases k entries e other seen now its counted a has);
}
  where
    go : (other : Decision) → other.stamp ≡ d.stamp → ((Decided other ∈ own k seen) ⊎ (GivenUp other ∈ own k seen)) ⊎ ((Decided other ≡ e) ⊎ (GivenUp other ≡ e)) → ⊥
    go other same (inl before) = may.unended other before same
    go other same (inr last) = none other last

-- and one that may end behind an entry that begins none could end before it
end_before : (k entries : ℕ) (e : HistoryEntry) (d : Decision) (seen now : List HistoryEntry) → is_of k e ≡ true → count k seen ≡ entries → IsAdded k entries e seen now
    → ((write : Write) → Began write ≡ e → ⊥) → MayEnd (own k now) d → MayEnd (own k seen) d
end_before k entries e d seen now its counted a none may = record {
  write = may.write;
  began = go (own_cases k entries e (Began may.write) seen now its counted a may.began);
  its = may.its;
  unended = λ other has same. may.unended other (later other has) same;
}
  where
    go : (Began may.write ∈ own k seen) ⊎ (Began may.write ≡ e) → Began may.write ∈ own k seen
    go (inl before) = before
    go (inr same) = absurd (none may.write same)

    still : (x : HistoryEntry) → x ∈ own k seen → x ∈ own k now
    still x has = subst (λ (l : List HistoryEntry). x ∈ l) (sym (own_added k entries e seen now its counted a)) (in_left (own k seen) (e ∷ []) x has)

    later : (other : Decision) → (Decided other ∈ own k seen) ⊎ (GivenUp other ∈ own k seen) → (Decided other ∈ own k now) ⊎ (GivenUp other ∈ own k now)
    later other (inl has) = inl (still (Decided other) has)
    later other (inr has) = inr (still (GivenUp other) has)

-- what holds of a client with one entry more
traced_more : (word tenant client before last : ℕ) (was is_open : Bool) (entries : ℕ) (e : HistoryEntry) (seen now : List HistoryEntry) → IsTracedClient word tenant client before was seen
    → before ≤ last → is_of word e ≡ true → count word seen ≡ entries → IsAdded word entries e seen now → ((write : Write) → Began write ≡ e → write.stamp ≤ last)
    → ((d : Decision) → (Decided d ≡ e) ⊎ (GivenUp d ≡ e) → d.stamp ≤ last) → ((is_open ≡ true) ↔ MayEnd (own word now) (record { word = word; tenant = tenant; stamp = last }))
    → IsTracedClient word tenant client last is_open now
traced_more word tenant client before last was is_open entries e seen now its low one counted a begun ends may = record {
  high = its.high;
  some = added_some word entries e seen now one counted a;
  joined = prefix_has seen now _ (added_later word entries e seen now a) its.joined;
  above = λ write has. above write (own_cases word entries e (Began write) seen now one counted a has);
  ended = λ d has. ended d (end_cases word entries e d seen now one counted a has);
  unended = may;
}
  where
    above : (write : Write) → (Began write ∈ own word seen) ⊎ (Began write ≡ e) → write.stamp ≤ last
    above write (inl has) = omega (arith, its.above write has, low)
    above write (inr same) = begun write same

    ended : (d : Decision) → ((Decided d ∈ own word seen) ⊎ (GivenUp d ∈ own word seen)) ⊎ ((Decided d ≡ e) ⊎ (GivenUp d ≡ e)) → d.stamp ≤ last
    ended d (inl has) = omega (arith, its.ended d has, low)
    ended d (inr same) = ends d same

no_end : (e : HistoryEntry) → ((d : Decision) → Decided d ≡ e → ⊥) → ((d : Decision) → GivenUp d ≡ e → ⊥) → (d : Decision) → (Decided d ≡ e) ⊎ (GivenUp d ≡ e) → ⊥
no_end e one other d (inl same) = one d same
no_end e one other d (inr same) = other d same

pub traced_began : (write : Write) (client last : ℕ) (was : Bool) (entries : ℕ) (seen now : List HistoryEntry) → IsTracedClient write.word write.tenant client last was seen
    → last < write.stamp → count write.word seen ≡ entries → IsAdded write.word entries (Began write) seen now
    → IsTracedClient write.word write.tenant client write.stamp true now
traced_began write client last was entries seen now its higher counted a =
    traced_more write.word write.tenant client last write.stamp was true entries e seen now its (omega (arith, higher)) one counted a begun (λ d same. absurd (none d same)) ((λ _. may), (λ _. refl))
  where
    e : HistoryEntry
    e = Began write

    one : is_of write.word e ≡ true
    one = equal_test write.word write.word refl

    none : (d : Decision) → (Decided d ≡ e) ⊎ (GivenUp d ≡ e) → ⊥
    none = no_end e (λ d same. cc same) (λ d same. cc same)

    begun : (other : Write) → Began other ≡ e → other.stamp ≤ write.stamp
    begun other same = let is : other ≡ write = cc same in omega (arith, ap (λ (w : Write). w.stamp) is)

    low : (other : Decision) → other.stamp ≡ write.stamp → ((Decided other ∈ own write.word seen) ⊎ (GivenUp other ∈ own write.word seen)) ⊎ ((Decided other ≡ e) ⊎ (GivenUp other ≡ e)) → ⊥
    low other same (inl has) = omega (arith, its.ended other has, higher, same)
    low other same (inr last) = none other last

    may : MayEnd (own write.word now) (record { word = write.word; tenant = write.tenant; stamp = write.stamp })
    may = record {
      write = write;
      began = subst (λ (l : List HistoryEntry). Began write ∈ l) (sym (own_added write.word entries e seen now one counted a)) (last_in (own write.word seen) e);
      its = (refl, refl);
      unended = λ other has same. low other same (end_cases write.word entries e other seen now one counted a has);
    }

-- a put of the client that ended
pub traced_ended : (d : Decision) (client last : ℕ) (was : Bool) (entries : ℕ) (e : HistoryEntry) (seen now : List HistoryEntry) → (e ≡ Decided d) ⊎ (e ≡ GivenUp d) → d.stamp ≡ last
    → IsTracedClient d.word d.tenant client last was seen → is_of d.word e ≡ true → count d.word seen ≡ entries → IsAdded d.word entries e seen now
    → IsTracedClient d.word d.tenant client last false now
traced_ended d client last was entries e seen now which at its one counted a =
    traced_more d.word d.tenant client last last was false entries e seen now its (omega arith) one counted a (λ write same. absurd (other write same which)) (λ o same. low o same which)
    ((λ is. absurd (cc is)), (λ may. absurd (may.unended d (ends which) at)))
  where
    here : e ∈ own d.word now
    here = subst (λ (l : List HistoryEntry). e ∈ l) (sym (own_added d.word entries e seen now one counted a)) (last_in (own d.word seen) e)

    ends : (e ≡ Decided d) ⊎ (e ≡ GivenUp d) → (Decided d ∈ own d.word now) ⊎ (GivenUp d ∈ own d.word now)
    ends (inl is) = inl (subst (λ (x : HistoryEntry). x ∈ own d.word now) is here)
    ends (inr is) = inr (subst (λ (x : HistoryEntry). x ∈ own d.word now) is here)

    other : (write : Write) → Began write ≡ e → (e ≡ Decided d) ⊎ (e ≡ GivenUp d) → ⊥
    other write same (inl is) = let no : Began write ≡ Decided d = same ∙ is in cc
    other write same (inr is) = let no : Began write ≡ GivenUp d = same ∙ is in cc

    low : (o : Decision) → (Decided o ≡ e) ⊎ (GivenUp o ≡ e) → (e ≡ Decided d) ⊎ (e ≡ GivenUp d) → o.stamp ≤ last
    low o (inl same) (inl is) = let both : Decided o ≡ Decided d = same ∙ is in let eq : o ≡ d = cc in omega (arith, ap (λ (x : Decision). x.stamp) eq, at)
    low o (inl same) (inr is) = let no : Decided o ≡ GivenUp d = same ∙ is in cc
    low o (inr same) (inl is) = let no : GivenUp o ≡ Decided d = same ∙ is in cc
    low o (inr same) (inr is) = let both : GivenUp o ≡ GivenUp d = same ∙ is in let eq : o ≡ d = cc in omega (arith, ap (λ (x : Decision). x.stamp) eq, at)

-- a put that is not the client's last one or may not end
pub cannot_end : (stamp : ℕ) (its : ClientTrace) (found : List HistoryEntry) (b : Bool) → b ≡ false
    → IsTrue b ↔ ((stamp ≡ its.last) × MayEnd (own its.word its.seen) (record { word = its.word; tenant = its.tenant; stamp = stamp })) → CannotEnd stamp its found
cannot_end stamp its found b not exact =
    ⊎_elim (λ same. inr (inl (λ may. both_ways b not (exact.1 (same.1, may))))) (λ apart. inl apart.1) (eqb_tells stamp its.last)

-- under a word that has as many entries as it can have, no put begins or ends
pub full_begin : (stamp : ℕ) (its : ClientTrace) (found : List HistoryEntry) → 2 ^ 62 ≤ count its.word its.seen → CannotBegin stamp its found
full_begin stamp its found full = inr (inr (inl full))

pub full_end : (stamp : ℕ) (its : ClientTrace) (found : List HistoryEntry) → 2 ^ 62 ≤ count its.word its.seen → CannotEnd stamp its found
full_end stamp its found full = inr (inr (inl full))

-- a client that has just arrived wrote nothing
pub traced_new : (word tenant client : ℕ) (seen : List HistoryEntry) → max_parts < word → Joined (record { word = word; tenant = tenant; client = client }) ∈ seen
    → own word seen ≡ Arrived word ∷ [] → IsTracedClient word tenant client 0 false seen
traced_new word tenant client seen high joined alone = record {
  high = high;
  some = let all : count word seen ≡ 1 = ap length alone in omega (arith, all);
  joined = joined;
  above = λ other has. absurd (begun other (subst (λ (l : List HistoryEntry). Began other ∈ l) alone has));
  ended = λ d has. absurd (ended d has);
  unended = ((λ is. absurd (cc is)), (λ may. absurd (begun may.write (subst (λ (l : List HistoryEntry). Began may.write ∈ l) alone may.began))));
}
  where
    begun : (other : Write) → Began other ∈ (Arrived word ∷ []) → ⊥
    begun other (inl same) = cc same
    begun other (inr none) = none

    decided : (d : Decision) → Decided d ∈ (Arrived word ∷ []) → ⊥
    decided d (inl same) = cc same
    decided d (inr none) = none

    given : (d : Decision) → GivenUp d ∈ (Arrived word ∷ []) → ⊥
    given d (inl same) = cc same
    given d (inr none) = none

    ended : (d : Decision) → (Decided d ∈ own word seen) ⊎ (GivenUp d ∈ own word seen) → ⊥
    ended d (inl has) = decided d (subst (λ (l : List HistoryEntry). Decided d ∈ l) alone has)
    ended d (inr has) = given d (subst (λ (l : List HistoryEntry). GivenUp d ∈ l) alone has)

-- a read of the client that began
pub traced_asked : (word tenant client last : ℕ) (is_open : Bool) (entries : ℕ) (seen now : List HistoryEntry) → IsTracedClient word tenant client last is_open seen
    → count word seen ≡ entries → IsAdded word entries (ReadBegan word) seen now → IsTracedClient word tenant client last is_open now
traced_asked word tenant client last is_open entries seen now its counted a =
    traced_more word tenant client last last is_open is_open entries e seen now its (omega arith) one counted a (λ write same. absurd (cc same)) (λ d same. absurd (none d same)) (
      (λ is. end_later word entries e (record { word = word; tenant = tenant; stamp = last }) seen now one counted a none (its.unended.0 is)),
      (λ may. its.unended.1 (end_before word entries e (record { word = word; tenant = tenant; stamp = last }) seen now one counted a (λ write same. cc same) may)),
    )
  where
    e : HistoryEntry
    e = ReadBegan word

    one : is_of word e ≡ true
    one = equal_test word word refl

    none : (d : Decision) → (Decided d ≡ e) ⊎ (GivenUp d ≡ e) → ⊥
    none = no_end e (λ d same. cc same) (λ d same. cc same)

-- what has as many entries of the word as there are with the entry has what the entry was added behind
pub has_with : (word entries : ℕ) (e : HistoryEntry) (seen now evidence : List HistoryEntry) → is_of word e ≡ true → count word seen ≡ entries → IsAdded word entries e seen now
    → IsPrefix evidence (but_last now) → HasWith (record { word = word; entries = entries + 1 }) now evidence
has_with word entries e seen now evidence its counted a behind log all this that many = go (prefixes_compare now log all this that)
  where
    before : List HistoryEntry
    before = seen ++ a.0

    -- what stands before the entry has one less
    fewer : IsPrefix log before → ⊥
    fewer pre = let more = count_later word log before pre in let here : count word before ≡ entries = a.2 in omega (arith, more, here, many)

    go : IsPrefix now log ⊎ IsPrefix log now → IsPrefix evidence log
    go (inl longer) =
        let P : List HistoryEntry → Type 0 = λ l. IsPrefix evidence l in
        let here : IsPrefix evidence before = subst P (before_added word entries e seen now a) behind in
        let less : IsPrefix before now = (e ∷ [], sym a.1) in
        prefix_join evidence before log here (prefix_join before now log less longer)
    go (inr shorter) =
        from (prefix_of_more log before e (subst (λ (l : List HistoryEntry). IsPrefix log l) a.1 shorter))
      where
        from : (log ≡ before ++ e ∷ []) ⊎ IsPrefix log before → IsPrefix evidence log
        from (inr less) = absurd (fewer less)
        from (inl same) =
            let P : List HistoryEntry → Type 0 = λ l. IsPrefix evidence l in
            let here : IsPrefix evidence before = subst P (before_added word entries e seen now a) behind in
            prefix_join evidence before log here (e ∷ [], sym same)

-- and so what stands before the entry of a read
pub read_entry : (word entries : ℕ) (seen now evidence : List HistoryEntry) → count word seen ≡ entries → IsAdded word entries (ReadBegan word) seen now
    → IsPrefix evidence (but_last now) → HasReadEntry (record { word = word; entries = entries + 1 }) now evidence
read_entry word entries seen now evidence counted a behind =
    let before = seen ++ a.0 in
    let e : HistoryEntry = ReadBegan word in
    let last : but_last now ≡ before = before_added word entries e seen now a in
    let P : List HistoryEntry → Type 0 = λ l. IsPrefix evidence l in
    let Q : List HistoryEntry → Type 0 = λ l. IsPrefix before l in
    record {
      before = before;
      after = [];
      stands = a.1;
      behind = subst P last behind;
      marked = has_with word entries e seen now before (equal_test word word refl) counted a (subst Q (sym last) (prefix_of_itself before));
    }

-- so what has the mark has what the evidence has
pub read_since : (mark : Mark) (seen evidence : List HistoryEntry) → HasReadEntry mark seen evidence → HasWith mark seen evidence
read_since mark seen evidence r log all this that has = prefix_join evidence r.before log r.behind (r.marked log all this that has)
