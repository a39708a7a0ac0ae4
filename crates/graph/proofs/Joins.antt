-- What Joined is: an equivalence, kept by more links, and how one link more changes it. Assumes nothing.
use Rattle.std.proofs.Common.{◌≡◌, ℕ, ◌⊎◌, List, sym, refl, subst, inl, inr, ⊎_elim}
use mathlib.Core.Logic.{⊎_swap}
use Rattle.network.specs.declared.track.Track.{Track}
use Rattle.graph.specs.Yards.{Link, Joined, here, along, Ends, Open, track}

pub link_sym : {y : List Track} {a b : ℕ} → Link y a b → Link y b a
link_sym l = record { number = l.number; is_open = l.is_open; ends = ⊎_swap l.ends }

pub trans : {y : List Track} {a b c : ℕ} → Joined y a b → Joined y b c → Joined y a c
trans j here = j
trans j (along k l) = along (trans j k) l

pub link : {y : List Track} {a b : ℕ} → Link y a b → Joined y a b
link l = along here l

pub turn : {y : List Track} {a b : ℕ} → Joined y a b → Joined y b a
turn here = here
turn (along j l) = trans (link (link_sym l)) (turn j)

-- an open track joins its ends
pub across : (y : List Track) (t : ℕ) → Open y t → Joined y (track y t).first (track y t).second
across y t o = link (record { number = t; is_open = o; ends = inl (refl, refl) })

-- every link of y joins its ends in z
abbrev pub Within : List Track → List Track → Type 0
Within y z = (a b : ℕ) → Link y a b → Joined z a b

pub more : {y z : List Track} {a b : ℕ} → Within y z → Joined y a b → Joined z a b
more w here = here
more w (along {b = b} {c = c} j l) = trans (more w j) (w b c l)

-- a and b are joined in y, or would be by a link between u and v
abbrev pub Bridged : List Track → ℕ → ℕ → ℕ → ℕ → Type 0
Bridged y u v a b = Joined y a b ⊎ ((Joined y a u × Joined y v b) ⊎ (Joined y a v × Joined y u b))

bridged_turn : {y : List Track} {u v a b : ℕ} → Bridged y u v a b → Bridged y v u a b
bridged_turn (inl j) = inl j
bridged_turn (inr h) = inr (⊎_swap h)

-- one more link at the end of a chain: one of y, or the one between u and v
bridged_on : {y : List Track} {u v a b c : ℕ} → Bridged y u v a b → Joined y b c → Bridged y u v a c
bridged_on (inl j) k = inl (trans j k)
bridged_on (inr (inl h)) k = inr (inl (h.0, trans h.1 k))
bridged_on (inr (inr h)) k = inr (inr (h.0, trans h.1 k))

bridged_over : {y : List Track} {u v a : ℕ} → Bridged y u v a u → Bridged y u v a v
bridged_over (inl j) = inr (inl (j, here))
bridged_over (inr (inl h)) = inr (inl (h.0, here))
bridged_over (inr (inr h)) = inl h.0

bridged_back : {y : List Track} {u v a : ℕ} → Bridged y u v a v → Bridged y u v a u
bridged_back h = bridged_turn (bridged_over (bridged_turn h))

bridged_ends : {y : List Track} {a b c : ℕ} (x : Track) → Bridged y x.first x.second a b → Ends x b c → Bridged y x.first x.second a c
bridged_ends {y} {a} x h (inl e) = subst (Bridged y x.first x.second a) e.1 (bridged_over (subst (Bridged y x.first x.second a) (sym e.0) h))
bridged_ends {y} {a} x h (inr e) = subst (Bridged y x.first x.second a) e.0 (bridged_back (subst (Bridged y x.first x.second a) (sym e.1) h))

-- ONE TRACK MORE: z has the links of y and at most the track x more
module _ {y z : List Track} (x : Track) (split : (a b : ℕ) → Link z a b → Joined y a b ⊎ Ends x a b) where
  pub one_more : {a b : ℕ} → Joined z a b → Bridged y x.first x.second a b
  one_more here = inl here
  one_more (along {b = b} {c = c} j l) = ⊎_elim (bridged_on (one_more j)) (bridged_ends x (one_more j)) (split b c l)

-- and back: where z has the links of y and joins u and v
pub one_more_back : {y z : List Track} {u v a b : ℕ} → Within y z → Joined z u v → Bridged y u v a b → Joined z a b
one_more_back w s (inl j) = more w j
one_more_back w s (inr (inl h)) = trans (trans (more w h.0) s) (more w h.1)
one_more_back w s (inr (inr h)) = trans (trans (more w h.0) (turn s)) (more w h.1)

pub open_more : (y z : List Track) → ((t : ℕ) → Open y t → track z t ≡ track y t) → {a b : ℕ} → Joined y a b → Joined z a b
open_more y z same = more inside
  where
    inside : Within y z
    inside c d l = link (record { number = l.number; is_open = rw (same l.number l.is_open) l.is_open; ends = rw (same l.number l.is_open) l.ends })
