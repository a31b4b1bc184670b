-- For `Base` and `Cell`. What the items have, and what is reported of it by entries and versions.
use Rattle.std.proofs.Common.{◌≡◌, ◌≢◌, ℕ, ◌+◌, ◌<◌, List, [], ◌∷◌, ◌++◌, length, get_or, take, All, refl, sym, ap, subst, ◌∙◌, arith}
use Rattle.std.specs.declared.cmp.Ordering.TheVariants.{Less}
use Rattle.std.proofs.lemmas.List.{append-nil, get_or-map, length-map, map_more, take_more}
use Rattle.std.proofs.lemmas.List.Concat.{flat_map-append, flat_map-cons}
use Rattle.std.proofs.lemmas.List.Elements.{All-append, All-head, All-tail, All-nil, All-map}
use Rattle.stamps.specs.Key.{key_cmp}
use Rattle.version_chain.specs.declared.version.Version.{Version}
use Rattle.prepare_commit.specs.declared.items.KnownItem.{KnownItem}
use Rattle.prepare_commit.specs.declared.items.ChainedItem.{ChainedItem}
use Rattle.plain_store.specs.Words.{Room, Stamp}
use Rattle.version_chain.specs.Chain.{Cells}
use Rattle.prepare_commit.specs.Bases.{Frozen, AreOrdered, IsEntryBefore, base_of}
use Rattle.prepare_commit.specs.InBlock.{Parts, LiesIn}
use Rattle.prepare_commit.specs.Begun.{Holding, holding_of, holdings, entries_in, lists_in, none_held, AreOwn}
use Rattle.prepare_commit.specs.Layout.{chain_lists, together, item_chains, entries_of, IsVersionOf, IsLaid}
use Rattle.prepare_commit.proofs.OwnChains.{less_apart}

-- ---- what the items have

pub holdings_entries : (items : List ChainedItem) (chains : List (List Version)) → entries_in (holdings items chains) ≡ entries_of items
holdings_entries [] chains = refl
holdings_entries (i ∷ items) chains = ap (λ (es : List KnownItem). i.entry ∷ es) (holdings_entries items chains)

pub holdings_lists : (items : List ChainedItem) (chains : List (List Version)) → lists_in (holdings items chains) ≡ item_chains items chains
holdings_lists [] chains = refl
holdings_lists (i ∷ items) chains = ap (λ (ls : List (List Version)). (holding_of chains i).versions ∷ ls) (holdings_lists items chains)

pub holdings_long : (items : List ChainedItem) (chains : List (List Version)) → length (holdings items chains) ≡ length items
holdings_long items chains = length-map items (holding_of chains)

pub holdings_at : (items : List ChainedItem) (chains : List (List Version)) (n : ℕ) (d : ChainedItem) (e : Holding) → n < length items → get_or (holdings items chains) n e ≡ holding_of chains (get_or items n d)
holdings_at items chains n d e less = get_or-map (holding_of chains) items n d e less

pub holdings_more : (items : List ChainedItem) (chains : List (List Version)) (n : ℕ) (d : ChainedItem) → n < length items → holdings (take (n + 1) items) chains ≡ holdings (take n items) chains ++ holding_of chains (get_or items n d) ∷ []
holdings_more items chains n d less = map_more (holding_of chains) items n d less

pub holdings_own : (items : List ChainedItem) (chains : List (List Version)) → IsLaid items chains → AreOwn (holdings items chains)
holdings_own items chains laid = All-map (λ (h : Holding). All (IsVersionOf h.entry.key) h.versions) (holding_of chains) items laid.own

-- one entry more
pub lists_more : (all : List Holding) (n : ℕ) → n < length all → together (lists_in (take (n + 1) all)) ≡ together (lists_in (take n all)) ++ (get_or all n none_held).versions
lists_more all n less =
    let vs = (get_or all n none_held).versions in
    ap together (map_more (λ (h : Holding). h.versions) all n none_held less)
    ∙ flat_map-append (λ (us : List Version). us) (lists_in (take n all)) (vs ∷ [])
    ∙ ap (λ (us : List Version). together (lists_in (take n all)) ++ us) (append-nil vs)

pub map_more_entry : (all : List Holding) (n : ℕ) → n < length all → take (n + 1) (entries_in all) ≡ take n (entries_in all) ++ (get_or all n none_held).entry ∷ []
map_more_entry all n less =
    take_more (entries_in all) n none_held.entry (omega (arith, less, length-map all (λ (h : Holding). h.entry)))
    ∙ ap (λ (e : KnownItem). take n (entries_in all) ++ e ∷ []) (get_or-map (λ (h : Holding). h.entry) all n none_held none_held.entry less)

-- ---- entries in the order of their keys, and all versions, tell which versions each entry has

-- no version of a key is among those of greater keys
others_apart : (key : List ℕ) (all : List Holding) → AreOwn all → All (λ (e : KnownItem). key_cmp key e.key ≡ Less) (entries_in all) → All (λ (v : Version). v.prepared.key ≢ key) (together (lists_in all))
others_apart key [] own above = All-nil (λ (v : Version). v.prepared.key ≢ key)
others_apart key (h ∷ all) own above =
    let P : Version → Type 0 = λ v. v.prepared.key ≢ key in
    let first = All-head (λ (e : KnownItem). key_cmp key e.key ≡ Less) h.entry (entries_in all) above in
    let mine = All-head (λ (k : Holding). All (IsVersionOf k.entry.key) k.versions) h all own in
    subst (All P) (sym (flat_map-cons (λ (vs : List Version). vs) h.versions (lists_in all)))
    (All-append P h.versions (together (lists_in all))
    (λ k d less same. less_apart key h.entry.key first (sym same ∙ (mine k d less).key_is))
    (others_apart key all (All-tail (λ (k : Holding). All (IsVersionOf k.entry.key) k.versions) h all own) (All-tail (λ (e : KnownItem). key_cmp key e.key ≡ Less) h.entry (entries_in all) above)))

-- the versions of a key end where others begin
none_behind : (key : List ℕ) (v : Version) (vs others : List Version) → IsVersionOf key v → All (λ (w : Version). w.prepared.key ≢ key) others → others ≡ v ∷ vs → ⊥
none_behind key v vs [] its apart same = absurd (omega (arith, ap (λ (us : List Version). length us) same))
none_behind key v vs (w ∷ others) its apart same =
    let first : w ≡ v = cc in
    All-head (λ (u : Version). u.prepared.key ≢ key) w others apart (ap (λ (u : Version). u.prepared.key) first ∙ its.key_is)

same_front : (key : List ℕ) (vs ws others rest : List Version) → All (IsVersionOf key) vs → All (IsVersionOf key) ws → All (λ (u : Version). u.prepared.key ≢ key) others → All (λ (u : Version). u.prepared.key ≢ key) rest
    → vs ++ others ≡ ws ++ rest → (vs ≡ ws) × (others ≡ rest)
same_front key [] [] others rest its theirs apart far same = (refl, same)
same_front key [] (w ∷ ws) others rest its theirs apart far same = absurd (none_behind key w (ws ++ rest) others (All-head (IsVersionOf key) w ws theirs) apart same)
same_front key (v ∷ vs) [] others rest its theirs apart far same = absurd (none_behind key v (vs ++ others) rest (All-head (IsVersionOf key) v vs its) far (sym same))
same_front key (v ∷ vs) (w ∷ ws) others rest its theirs apart far same =
    let first : v ≡ w = cc in
    let later : vs ++ others ≡ ws ++ rest = cc in
    let both = same_front key vs ws others rest (All-tail (IsVersionOf key) v vs its) (All-tail (IsVersionOf key) w ws theirs) apart far later in
    ((λ i. first i ∷ both.0 i), both.1)

pub same_holdings : (one two : List Holding) → AreOwn one → AreOwn two → AreOrdered IsEntryBefore (entries_in one) → entries_in one ≡ entries_in two → together (lists_in one) ≡ together (lists_in two) → one ≡ two
same_holdings [] [] own theirs order entries versions = refl
same_holdings [] (k ∷ two) own theirs order entries versions = absurd (omega (arith, ap (λ (es : List KnownItem). length es) entries))
same_holdings (h ∷ one) [] own theirs order entries versions = absurd (omega (arith, ap (λ (es : List KnownItem). length es) entries))
same_holdings (h ∷ one) (k ∷ two) own theirs order entries versions =
    let P : Holding → Type 0 = λ x. All (IsVersionOf x.entry.key) x.versions in
    let first : h.entry ≡ k.entry = cc in
    let later : entries_in one ≡ entries_in two = cc in
    let key = h.entry.key in
    let mine = All-head P h one own in
    let its = subst (λ (e : KnownItem). All (IsVersionOf e.key) k.versions) (sym first) (All-head P k two theirs) in
    let whole = sym (flat_map-cons (λ (vs : List Version). vs) h.versions (lists_in one)) ∙ versions ∙ flat_map-cons (λ (vs : List Version). vs) k.versions (lists_in two) in
    let both = same_front key h.versions k.versions (together (lists_in one)) (together (lists_in two)) mine its
    (others_apart key one (All-tail P h one own) order.0)
    (others_apart key two (All-tail P k two theirs) (subst (All (λ (e : KnownItem). key_cmp key e.key ≡ Less)) later order.0)) whole in
    let rest = same_holdings one two (All-tail P h one own) (All-tail P k two theirs) order.1 later both.1 in
    λ i. record { entry = first i; versions = both.0 i } ∷ rest i

-- ---- a cell and a base

pub lists_together : (items : List ChainedItem) (chains : List (List Version)) → together (lists_in (holdings items chains)) ≡ together (item_chains items chains)
lists_together items chains = ap together (holdings_lists items chains)

module _ (block : Cells) (cell : Parts) (lies : LiesIn block cell) (held : List Holding) (room : Room) (marks : List Stamp) where
  abbrev pub lists : List (List Version)
  lists = chain_lists block cell.chains

  abbrev pub told : Frozen
  told = record { room = room; versions = together (lists_in held); entries = entries_in held; marks = marks }

  -- a base is what the cell holds where its entries and versions are those of the items
  pub held_told : holdings cell.items lists ≡ held → cell.room ≡ room → cell.marks ≡ marks → base_of block cell ≡ told
  held_told same rooms ms =
      let versions = sym (lists_together cell.items lists) ∙ ap (λ (all : List Holding). together (lists_in all)) same in
      let entries = sym (holdings_entries cell.items lists) ∙ ap entries_in same in
      λ i. record { room = rooms i; versions = versions i; entries = entries i; marks = ms i }

  -- and only there
  pub told_held : AreOwn held → AreOrdered IsEntryBefore (entries_in held) → base_of block cell ≡ told → holdings cell.items lists ≡ held
  told_held own order same =
      let entries : entries_in held ≡ entries_in (holdings cell.items lists) = sym (ap (λ (b : Frozen). b.entries) same) ∙ sym (holdings_entries cell.items lists) in
      let versions : together (lists_in held) ≡ together (lists_in (holdings cell.items lists)) = sym (ap (λ (b : Frozen). b.versions) same) ∙ sym (lists_together cell.items lists) in
      sym (same_holdings held (holdings cell.items lists) own (holdings_own cell.items lists lies.holds.laid) order entries versions)
