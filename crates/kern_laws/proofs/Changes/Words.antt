-- What makes words of words: arguments of a request, flag bits, stored messages.
use Rattle.kern_model.proofs.Common.{◌≡◌, ℕ, zero, suc, List, [], ◌∷◌, subst, Bool, true, false, not, arith, Some, None, bit_and, bit_or, All, ◌==◌, if◌then◌else◌, slice_index, Request, Kernel, Content, object_at, argument, IsWord, IsRequest, AreWords, AreMessageWords, HoldsWords}
use Rattle.std.proofs.lemmas.Nat.{and_le_l, or_of_32}
use Rattle.std.proofs.lemmas.List.Elements.{All-nil, All-cons, All-head, All-tail, All-append}
use Rattle.kern_model.specs.FlagBits.{has_bit, turned, ready_bits, bits_after, consumed}
use Rattle.kern_model.specs.Queues.{stored}

-- the arguments of a request
pub index-word : (ns : List ℕ) → All IsWord ns → (i : ℕ) → IsWord (slice_index ns i)
index-word [] h i = omega arith
index-word (n ∷ ns) h zero = All-head IsWord n ns h
index-word (n ∷ ns) h (suc i) = index-word ns (All-tail IsWord n ns h) i

pub argument-word : (r : Request) → IsRequest r → (i : ℕ) → IsWord (argument r i)
argument-word r q i = index-word r.args q.words i

-- what an object holds
pub held-words : (k : Kernel) → AreWords k.tasks k.objects → (o : ℕ) (content : Content) → (object_at k o).content ≡ content → HoldsWords content
held-words k w o content e = subst HoldsWords e (w.objects o)

-- messages
abbrev IsMessageWord : ℕ × ℕ → Type 0
IsMessageWord m = IsWord m.0 × IsWord m.1

pub rest-words : (m : ℕ × ℕ) (ms : List (ℕ × ℕ)) → AreMessageWords (m ∷ ms) → AreMessageWords ms
rest-words m ms h = All-tail IsMessageWord m ms h

pub stored-words : (lifo : Bool) (m : ℕ × ℕ) (ms : List (ℕ × ℕ)) → IsWord m.0 → IsWord m.1 → AreMessageWords ms → AreMessageWords (stored lifo m ms)
stored-words true m ms a b h = All-cons IsMessageWord m ms (a, b) h
stored-words false m ms a b h = All-append IsMessageWord ms (m ∷ []) h (All-cons IsMessageWord m [] (a, b) (All-nil IsMessageWord))

-- flag bits
turned-word : (n : ℕ) → IsWord (turned n)
turned-word n = omega arith

either-word : (b : Bool) (m n : ℕ) → IsWord m → IsWord n → IsWord (if b then m else n)
either-word true m n a c = a
either-word false m n a c = c

and-word : (m n : ℕ) → IsWord m → IsWord (bit_and m n)
and-word m n h = omega (arith, h, and_le_l m n)

pub ready-word : (bits mask opt ready : ℕ) → IsWord bits → ready_bits bits mask opt ≡ Some ready → IsWord ready
ready-word bits mask opt ready h e =
    let from = if has_bit opt 2 then turned bits else bits in
    let seen = bit_and from mask in
    by_test (if has_bit opt 1 then not (seen == 0) else seen == mask) seen (and-word from mask (either-word (has_bit opt 2) (turned bits) bits (turned-word bits) h)) e
  where
    by_test : (b : Bool) (seen : ℕ) → IsWord seen → (if b then Some seen else None) ≡ Some ready → IsWord ready
    by_test true seen w e = let same : seen ≡ ready = cc in subst IsWord same w
    by_test false seen w e = cc

pub after-word : (old bits opt : ℕ) → IsWord old → IsWord bits → IsWord (bits_after old bits opt)
after-word old bits opt a b = either-word (opt == 1) (bit_and old (turned bits)) (bit_or old bits) (and-word old (turned bits) a) (or_of_32 old bits a b)

pub consumed-word : (bits ready opt : ℕ) → IsWord bits → IsWord ready → IsWord (consumed bits ready opt)
consumed-word bits ready opt a b =
    let taken = if has_bit opt 2 then bit_or bits ready else bit_and bits (turned ready) in
    either-word (has_bit opt 4) taken bits (either-word (has_bit opt 2) (bit_or bits ready) (bit_and bits (turned ready)) (or_of_32 bits ready a b) (and-word bits (turned ready) a)) a
