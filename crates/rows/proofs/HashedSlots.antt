-- Slots by number, seen as those of an ordered map: what a look-up finds, and after a change of one slot.
use Rattle.std.specs.Prelude.{◌≡◌, ◌≢◌, ℕ, zero, suc, Bool, true, false, cond, List, [], ◌∷◌, map, Option, Some, None, refl, slice_index_or, ◌⊎◌}
use Rattle.std.proofs.Common.{sym, ◌∙◌, ap, subst, inl, inr, arith}
use Rattle.std.specs.Option.{option_map}
use Rattle.std.specs.Ordering.{eq_by_cmp}
use Rattle.std.specs.FinMap.{get}
use Rattle.std.specs.HashMap.{HashMap}
use Rattle.std.specs.Map.{lookup, keys_of, values_of}
use Rattle.slab.specs.Slab as slab
use Rattle.slab.specs.Slab.{Slab, SameValues}
use Rattle.model.specs.declared.key.Key.{Key}
use Rattle.model.specs.declared.row.Row.{Row}
use Rattle.model.specs.Key.{key_cmp}
use Rattle.rows.specs.KeyedSlot.{KeyedSlot}
use Rattle.rows.specs.Hashed.{row_of, key_of, number_for, row_for, slot_by, seen, keys_in, with_row_of, IsFound, SetsRow, AddsSlot, DropsSlot, number_to_drop, Renumbers, SameNumbers, Unnumbers}
use Rattle.rows.specs.KeyLemmas.{same_key}
use Rattle.rows.specs.Ordered.{IsNamed, AddsName}
use Rattle.rows.specs.Slots.{found, rows_in, numbers_in, row_at, number_at, with_row_at, SameBeside, without_empty, number_of_empty, number_if_empty, kept_if_filled}
use Rattle.rows.proofs.Slots.{get-rows_in, get-numbers_in}

slot_of_cond : (s : Slab KeyedSlot) (b : Bool) (n : ℕ) (o : Option ℕ) → cond b (Some (slot_by s n)) (option_map (slot_by s) o) ≡ option_map (slot_by s) (cond b (Some n) o)
slot_of_cond s true n o = refl
slot_of_cond s false n o = refl

pub found-seen : (s : Slab KeyedSlot) (es : List (Key × ℕ)) (q : Key) → found (seen s es) q ≡ option_map (slot_by s) (number_for es q)
found-seen s [] q = refl
found-seen s (e ∷ es) q =
    ap (cond (eq_by_cmp key_cmp q e.0) (Some (slot_by s e.1))) (found-seen s es q) ∙ slot_of_cond s (eq_by_cmp key_cmp q e.0) e.1 (number_for es q)

number_of_slot : (s : Slab KeyedSlot) (o : Option ℕ) → number_at (option_map (slot_by s) o) ≡ o
number_of_slot s None = refl
number_of_slot s (Some n) = refl

row_of_slot : (s : Slab KeyedSlot) (o : Option ℕ) → row_at (option_map (slot_by s) o) ≡ row_for s o
row_of_slot s None = refl
row_of_slot s (Some n) = refl

pub get-numbers : (s : Slab KeyedSlot) (es : List (Key × ℕ)) (q : Key) → get (numbers_in (seen s es)) q ≡ number_for es q
get-numbers s es q = get-numbers_in (seen s es) q ∙ ap number_at (found-seen s es q) ∙ number_of_slot s (number_for es q)

pub get-rows : (s : Slab KeyedSlot) (es : List (Key × ℕ)) (q : Key) → get (rows_in (seen s es)) q ≡ row_for s (number_for es q)
get-rows s es q = get-rows_in (seen s es) q ∙ ap row_at (found-seen s es q) ∙ row_of_slot s (number_for es q)

-- the row at a key is the one in the slot of its number
pub row_by_number : (s : Slab KeyedSlot) (es : List (Key × ℕ)) (q : Key) (number : ℕ) → get (numbers_in (seen s es)) q ≡ Some number → get (rows_in (seen s es)) q ≡ row_of (slab.get s number)
row_by_number s es q number has = get-rows s es q ∙ ap (row_for s) (sym (get-numbers s es q) ∙ has)

key_of_listed : (xs : List (Option KeyedSlot)) (n : ℕ) → slice_index_or (map key_of xs) n None ≡ key_of (slice_index_or xs n None)
key_of_listed [] n = refl
key_of_listed (x ∷ xs) zero = refl
key_of_listed (x ∷ xs) (suc n) = key_of_listed xs n

pub get-keys : (s : Slab KeyedSlot) (n : ℕ) → slab.get (keys_in s) n ≡ key_of (slab.get s n)
get-keys s n = key_of_listed s.slots n

pub same_keys : (s t : Slab KeyedSlot) (n : ℕ) → key_of (slab.get t n) ≡ key_of (slab.get s n) → slab.get (keys_in t) n ≡ slab.get (keys_in s) n
same_keys s t n same = get-keys t n ∙ same ∙ sym (get-keys s n)

same_or_not : (n m : ℕ) → (n ≡ m) ⊎ (n ≢ m)
same_or_not n m = grind arith

module _ (s : Slab KeyedSlot) (es : List (Key × ℕ)) (named : IsNamed (numbers_in (seen s es)) (keys_in s)) where
  -- the slot of a key's number has that key
  pub key_of_number : (key : Key) (n : ℕ) → number_for es key ≡ Some n → key_of (slab.get s n) ≡ Some key
  key_of_number key n e = sym (get-keys s n) ∙ named.named key n (get-numbers s es key ∙ e)

  -- two keys apart have two numbers
  pub numbers_differ : (key q : Key) (n : ℕ) → eq_by_cmp key_cmp key q ≡ false → number_for es key ≡ Some n → number_for es q ≡ Some n → ⊥
  numbers_differ key q n apart e f =
      let one = key_of_number key n e in
      let other = key_of_number q n f in
      let same : key ≡ q = cc in
      let is : eq_by_cmp key_cmp key q ≡ true = subst (λ (k : Key). eq_by_cmp key_cmp key k ≡ true) same (same_key key) in
      cc

slots_alike : (s t : Slab KeyedSlot) (o : Option ℕ) → ((n : ℕ) → o ≡ Some n → slab.get t n ≡ slab.get s n) → option_map (slot_by t) o ≡ option_map (slot_by s) o
slots_alike s t None same = refl
slots_alike s t (Some n) same = ap (λ (b : Option KeyedSlot). Some (record { number = n; row = row_of b })) (same n refl)

-- keys but one have their numbers, and the slots of these are as they were
pub seen_beside : (s t : Slab KeyedSlot) (es fs : List (Key × ℕ)) (key : Key)
    → ((q : Key) → eq_by_cmp key_cmp key q ≡ false → number_for fs q ≡ number_for es q)
    → ((q : Key) (n : ℕ) → eq_by_cmp key_cmp key q ≡ false → number_for es q ≡ Some n → slab.get t n ≡ slab.get s n)
    → SameBeside (seen s es) (seen t fs) key
seen_beside s t es fs key numbers slots = λ q apart.
    found-seen t fs q ∙ ap (option_map (slot_by t)) (numbers q apart) ∙ slots_alike s t (number_for es q) (λ n e. slots q n apart e) ∙ sym (found-seen s es q)

-- ---- a row, or none, was put into a slot

row_of_set : (row : Option Row) (o : Option KeyedSlot) (key : Key) → key_of o ≡ Some key → row_of (with_row_of row o) ≡ row
row_of_set row None key e = absurd cc
row_of_set row (Some b) key e = refl

key_of_set : (row : Option Row) (o : Option KeyedSlot) → key_of (with_row_of row o) ≡ key_of o
key_of_set row None = refl
key_of_set row (Some b) = refl

module _ (s t : Slab KeyedSlot) (es : List (Key × ℕ)) (key : Key) (number : ℕ) (row : Option Row)
    (named : IsNamed (numbers_in (seen s es)) (keys_in s)) (has : get (numbers_in (seen s es)) key ≡ Some number) (sets : SetsRow s t number row) where
  at : number_for es key ≡ Some number
  at = sym (get-numbers s es key) ∙ has

  pub set_here : found (seen t es) key ≡ with_row_at row (found (seen s es) key)
  set_here =
      found-seen t es key ∙ ap (option_map (slot_by t)) at
      ∙ ap (λ (r : Option Row). Some (record { number = number; row = r })) (ap row_of sets.here ∙ row_of_set row (slab.get s number) key (key_of_number s es named key number at))
      ∙ sym (ap (with_row_at row) (found-seen s es key ∙ ap (option_map (slot_by s)) at))

  pub set_beside : SameBeside (seen s es) (seen t es) key
  set_beside =
      seen_beside s t es es key (λ q apart. refl)
      (λ q n apart e. sets.beside n (λ same. numbers_differ s es named key q n apart (at ∙ sym (ap Some same)) e))

  pub set_keys : SameValues (keys_in s) (keys_in t)
  set_keys = λ n. same_keys s t n (elim (same_or_not n number) [
    | inl same ↦ ap (λ m. key_of (slab.get t m)) same ∙ ap key_of sets.here ∙ key_of_set row (slab.get s number) ∙ sym (ap (λ m. key_of (slab.get s m)) same)
    | inr differs ↦ ap key_of (sets.beside n differs)
  ])

-- ---- an empty slot was made, or memory for it refused

cond_same : (key : Key) (number : Option ℕ) (o : Option ℕ) → cond (eq_by_cmp key_cmp key key) number o ≡ number
cond_same key number o = ap (λ b. cond b number o) (same_key key)

module _ (s t : Slab KeyedSlot) (es fs : List (Key × ℕ)) (key : Key) (number : ℕ)
    (named : IsNamed (numbers_in (seen s es)) (keys_in s)) (adds : AddsSlot s t number key)
    (order : Renumbers (number_for es) (number_for fs) key (Some number)) where
  pub add_beside : SameBeside (seen s es) (seen t fs) key
  add_beside =
      seen_beside s t es fs key (λ q apart. order q ∙ ap (λ b. cond b (Some number) (number_for es q)) apart)
      (λ q n apart e. adds.beside n (λ same.
      let has = key_of_number s es named q n e in
      let none : slab.get s n ≡ None = ap (slab.get s) same ∙ adds.free in
      let gone : key_of (slab.get s n) ≡ None = ap key_of none in
      cc))

  pub add_here : found (seen t fs) key ≡ Some (record { number = number; row = None })
  add_here =
      found-seen t fs key ∙ ap (option_map (slot_by t)) (order key ∙ cond_same key (Some number) (number_for es key))
      ∙ ap (λ (b : Option KeyedSlot). Some (record { number = number; row = row_of b })) adds.here

  pub add_name : AddsName (keys_in s) (keys_in t) number key
  add_name = record {
    free = get-keys s number ∙ ap key_of adds.free;
    here = get-keys t number ∙ ap key_of adds.here;
    beside = λ other differs. same_keys s t other (ap key_of (adds.beside other differs));
  }

module _ (s t : Slab KeyedSlot) (es fs : List (Key × ℕ)) (key : Key)
    (slots : (n : ℕ) → slab.get t n ≡ slab.get s n) (order : SameNumbers (number_for es) (number_for fs)) where
  pub same_beside : SameBeside (seen s es) (seen t fs) key
  same_beside = seen_beside s t es fs key (λ q apart. order q) (λ q n apart e. slots n)

  pub same_found : (q : Key) → found (seen t fs) q ≡ found (seen s es) q
  same_found q =
      found-seen t fs q ∙ ap (option_map (slot_by t)) (order q) ∙ slots_alike s t (number_for es q) (λ n e. slots n) ∙ sym (found-seen s es q)

  pub same_names : SameValues (keys_in s) (keys_in t)
  same_names = λ n. same_keys s t n (ap key_of (slots n))

-- ---- a slot was dropped if it was empty

abbrev none_of : Option ℕ
none_of = None

empty_of_slot : (s : Slab KeyedSlot) (o : Option ℕ) → number_of_empty (option_map (slot_by s) o) ≡ number_to_drop s o
empty_of_slot s None = refl
empty_of_slot s (Some n) = refl

-- what is dropped is the number of a slot with no row in it
number_dropped : (s : Slab KeyedSlot) (o : Option ℕ) (n : ℕ) → number_to_drop s o ≡ Some n → o ≡ Some n
number_dropped s None n e = absurd cc
number_dropped s (Some m) n e = at (row_of (slab.get s m)) e
  where
    at : (row : Option Row) → number_if_empty m row ≡ Some n → Some m ≡ Some n
    at None e = e
    at (Some r) e = absurd cc

module _ (s t : Slab KeyedSlot) (es fs : List (Key × ℕ)) (key : Key)
    (named : IsNamed (numbers_in (seen s es)) (keys_in s)) (drops : DropsSlot s t (number_to_drop s (number_for es key)))
    (order : Unnumbers (number_for es) (number_for fs) key (number_to_drop s (number_for es key))) where
  numbers_beside : (dropped : Option ℕ) → Unnumbers (number_for es) (number_for fs) key dropped → (q : Key) → eq_by_cmp key_cmp key q ≡ false → number_for fs q ≡ number_for es q
  numbers_beside None same q apart = same q
  numbers_beside (Some n) gone q apart = gone q ∙ ap (λ b. cond b None (number_for es q)) apart

  pub drop_beside : SameBeside (seen s es) (seen t fs) key
  drop_beside =
      seen_beside s t es fs key (numbers_beside (number_to_drop s (number_for es key)) order)
      (λ q n apart e. drops.beside n (λ f. numbers_differ s es named key q n apart (number_dropped s (number_for es key) n f) e))

  -- by what stood at the key, and in its slot
  drop_at : (o : Option ℕ) → number_for es key ≡ o → (row : Option Row) → row_for s o ≡ row → found (seen t fs) key ≡ without_empty (option_map (slot_by s) o)
  drop_at None is row at =
      let none : number_to_drop s (number_for es key) ≡ None = ap (number_to_drop s) is in
      let order_same = subst (λ (o : Option ℕ). Unnumbers (number_for es) (number_for fs) key o) none order in
      found-seen t fs key ∙ ap (option_map (slot_by t)) (order_same key ∙ is)
  drop_at (Some n) is None at =
      let some : number_to_drop s (number_for es key) ≡ Some n = ap (number_to_drop s) is ∙ ap (number_if_empty n) at in
      let order_gone = subst (λ (o : Option ℕ). Unnumbers (number_for es) (number_for fs) key o) some order in
      found-seen t fs key ∙ ap (option_map (slot_by t)) (order_gone key ∙ cond_same key None (number_for es key))
      ∙ sym (ap (kept_if_filled (slot_by s n)) at)
  drop_at (Some n) is (Some r) at =
      let none : number_to_drop s (number_for es key) ≡ None = ap (number_to_drop s) is ∙ ap (number_if_empty n) at in
      let order_same = subst (λ (o : Option ℕ). Unnumbers (number_for es) (number_for fs) key o) none order in
      let slot = drops.beside n (λ e. let never : none_of ≡ Some n = sym none ∙ e in cc) in
      found-seen t fs key ∙ ap (option_map (slot_by t)) (order_same key ∙ is)
      ∙ ap (λ (b : Option KeyedSlot). Some (record { number = n; row = row_of b })) slot
      ∙ sym (ap (kept_if_filled (slot_by s n)) at)

  pub drop_here : found (seen t fs) key ≡ without_empty (found (seen s es) key)
  drop_here = drop_at (number_for es key) refl (row_for s (number_for es key)) refl ∙ ap without_empty (sym (found-seen s es key))

  pub dropped_number : number_of_empty (found (seen s es) key) ≡ number_to_drop s (number_for es key)
  dropped_number = ap number_of_empty (found-seen s es key) ∙ empty_of_slot s (number_for es key)

  pub drop_others : (other : ℕ) → number_of_empty (found (seen s es) key) ≢ Some other → slab.get (keys_in t) other ≡ slab.get (keys_in s) other
  drop_others other differs = same_keys s t other (ap key_of (drops.beside other (λ e. differs (dropped_number ∙ e))))

  pub drop_name : (other : ℕ) → number_of_empty (found (seen s es) key) ≡ Some other → slab.get (keys_in t) other ≡ None
  drop_name other e = get-keys t other ∙ ap key_of (drops.here other (sym dropped_number ∙ e))

-- ---- no slots

pub none_found : {S : Type 0} (numbers : HashMap Key ℕ S) (es : List (Key × ℕ)) (s : Slab KeyedSlot) → numbers.entries ≡ [] → es ≡ [] → ((n : ℕ) → slab.get s n ≡ None) → IsFound numbers es s
none_found numbers es s hashes order slots = record {
  named = record {
    named = λ key n e. absurd (let none = get-numbers s es key ∙ ap (λ (xs : List (Key × ℕ)). number_for xs key) order in cc);
    names = λ key n e. absurd (let none = get-keys s n ∙ ap key_of (slots n) in cc);
  };
  hashed = λ key. ap (λ (xs : List (Key × ℕ)). lookup (eq_by_cmp key_cmp key) xs) hashes ∙ sym (ap (λ (xs : List (Key × ℕ)). number_for xs key) order);
}

-- ---- the rows one after another

pub values-seen : (s : Slab KeyedSlot) (es : List (Key × ℕ)) → values_of (seen s es) ≡ map (slot_by s) (values_of es)
values-seen s [] = refl
values-seen s (e ∷ es) = ap (λ slots. slot_by s e.1 ∷ slots) (values-seen s es)

pub keys-seen : (s : Slab KeyedSlot) (es : List (Key × ℕ)) → keys_of (seen s es) ≡ keys_of es
keys-seen s [] = refl
keys-seen s (e ∷ es) = ap (λ keys. e.0 ∷ keys) (keys-seen s es)
