-- The labels of a hostname, read one by one.
use mathlib.Core.Path.{◌≡◌, refl, sym, ◌∙◌, ap}
use mathlib.Core.Bool.{Bool, true, false, true≢false, false≢true}
use mathlib.Core.List.{List, [], ◌∷◌}
use Prim.Native.Nat.{ℕ, suc, ◌+◌, ◌-◌, ◌<◌, ◌≤◌}
use native.Mathlib.Omega.{arith}
use lib.Dec.{eqb}
use lib.ListN.{length, get_or, drop, drop_of_length-le}
use lib.Seq.{drop-drop, get_or-drop}
use borrow.Author.Tests.{eq-eqb, ne_eqb}
use Rattle.laws.specs.Choose.{pick}
use Rattle.laws.specs.Lists.{byte_at, part, empty}
use Rattle.laws.proofs.Parts.{part_length, part_none}
use Rattle.text.specs.Runs.{run, past, front}
use Rattle.text.proofs.RunLaws.{byte_there, byte_within, past_on, past_from, past_within}
use Rattle.uri.specs.Classes.{is_label_byte, is_name_byte}
use Rattle.uri.specs.Pieces.{on_first, pieces}
use Rattle.uri.specs.Host.{is_label, is_top_label, is_end, are_labels, is_hostname}
use Rattle.uri.specs.All.{all_uri}
use Rattle.uri.proofs.PieceLaws.{empty_some, pieces_some}
use Rattle.uri.proofs.PastLaws.{part_run, past_stop, past_none, past_in}
use Rattle.uri.proofs.LabelLaws.{top_none}

-- a byte of a label is one of a name
label_name : (x : ℕ) → is_label_byte x ≡ true → is_name_byte x ≡ true
unfolding is_name_byte
label_name x e = rw e

-- and no dot
label_plain : (x : ℕ) → is_label_byte x ≡ true → eqb x 46 ≡ false
unfolding all_uri
label_plain x e = ne_eqb x 46 (λ q. false≢true (ap is_label_byte (sym q) ∙ e))

-- past the end of a text stands none
label_past : is_label_byte 256 ≡ false
unfolding all_uri
label_past = refl

-- a dot is a byte of a name
dot_name : is_name_byte 46 ≡ true
unfolding all_uri
dot_name = refl

-- what stands behind the first label: nothing, or a dot and what follows it
abbrev behind_label : List ℕ → List (List ℕ)
behind_label t = pick (eqb (get_or t (run is_label_byte t) 256) 46) (pieces 46 (front is_name_byte (drop (suc (run is_label_byte t)) t))) []

-- the bytes of names are the first label and what stands behind it
name_pieces : (t : List ℕ) → pieces 46 (front is_name_byte t) ≡ front is_label_byte t ∷ behind_label t
unfolding front run pieces on_first is_name_byte
name_pieces [] = refl
name_pieces (x ∷ xs) = go (is_label_byte x) refl (eqb x 46) refl (name_pieces xs)
  where
    go : (a : Bool) → is_label_byte x ≡ a → (b : Bool) → eqb x 46 ≡ b
        → pieces 46 (front is_name_byte xs) ≡ front is_label_byte xs ∷ behind_label xs
        → pieces 46 (front is_name_byte (x ∷ xs)) ≡ front is_label_byte (x ∷ xs) ∷ behind_label (x ∷ xs)
    go true e true d r = absurd (true≢false (sym d ∙ label_plain x e))
    go true e false d r = rw (e, d) (ap (on_first x) r)
    go false e true d r = rw (e, d, d)
    go false e false d r = rw (e, d)

-- a choice between two that fail fails
pub pick_same : (b : Bool) → pick b false false ≡ false
pick_same true = refl
pick_same false = refl

-- what is left of a hostname behind labels, of which the last is a toplabel or not
abbrev ends : Bool → List (List ℕ) → Bool
ends top ps = pick (is_end ps) top (are_labels ps)

-- before the first label
ends_begin : (ps : List (List ℕ)) → are_labels ps ≡ ends false ps
unfolding is_end are_labels empty
ends_begin [] = refl
ends_begin ([] ∷ []) = top_none
ends_begin ((x ∷ xs) ∷ []) = refl
ends_begin (p ∷ q ∷ ps) = refl

-- a piece that is no label, and others behind it
ends_off : (top : Bool) (p : List ℕ) (ps : List (List ℕ)) → 0 < length ps → is_label p ≡ false → ends top (p ∷ ps) ≡ false
unfolding is_end are_labels is_top_label
ends_off top p [] h e = absurd (omega arith)
ends_off top p (q ∷ ps) h e = rw e (pick_same (is_end (q ∷ ps)))

-- a label, and others behind it
ends_on : (top : Bool) (p : List ℕ) (ps : List (List ℕ)) → 0 < length ps → is_label p ≡ true → ends top (p ∷ ps) ≡ ends (is_top_label p) ps
unfolding is_end are_labels
ends_on top p [] h e = absurd (omega arith)
ends_on top p (q ∷ ps) h e = rw e

-- the bytes of names that a text begins with are what is left of a hostname
abbrev pub name_ends : Bool → List ℕ → Bool
name_ends top t = ends top (pieces 46 (front is_name_byte t))

-- before the first of them
pub name_begin : (t : List ℕ) → is_hostname (front is_name_byte t) ≡ name_ends false t
unfolding is_hostname
name_begin t = ends_begin (pieces 46 (front is_name_byte t))

-- a run of label bytes, and what stands behind it
module _ (s : List ℕ) (i e : ℕ) (p : e ≡ past is_label_byte s i) where
  -- bytes of names end where those that follow the label end
  pub name_end : past is_name_byte s i ≡ past is_name_byte s e
  name_end = rw p (past_in is_label_byte is_name_byte label_name s i)

  -- the byte behind the label
  byte_behind : get_or (drop i s) (run is_label_byte (drop i s)) 256 ≡ byte_at s e
  unfolding byte_at past
  byte_behind = rw p (get_or-drop i s (run is_label_byte (drop i s)) 256)

  -- no dot: the label is the last piece
  module _ (n : byte_at s e ≡ 46 → ⊥) where
    -- the bytes of names end behind it
    pub last_end : past is_name_byte s i ≡ e
    unfolding is_name_byte
    last_end =
        name_end
        ∙ past_none is_name_byte s e
        (rw (ap (λ (k : ℕ). is_label_byte (byte_at s k)) p ∙ past_stop is_label_byte label_past s i, ne_eqb (byte_at s e) 46 n))

    -- nothing else is left
    last_piece_lem : (top : Bool) → name_ends top (drop i s) ≡ pick (empty (part s i e)) top (is_top_label (part s i e))
    unfolding is_end are_labels
    last_piece_lem top = rw (name_pieces (drop i s), byte_behind, ne_eqb (byte_at s e) 46 n, part_run is_label_byte s i e p)

    -- it is empty
    pub last_none : (top : Bool) → e ≡ i → name_ends top (drop i s) ≡ top
    unfolding empty
    last_none top q = last_piece_lem top ∙ rw (part_none s i e (omega arith))

    -- it is not
    pub last_some : (top : Bool) → i < length s → (e ≡ i → ⊥) → name_ends top (drop i s) ≡ is_top_label (part s i e)
    last_some top h q = last_piece_lem top ∙ rw (empty_some (part s i e) (λ z. q (omega (arith, long, past_from is_label_byte s i))))
      where
        long : length (part s i e) ≡ e - i
        long = part_length s i e (omega (arith, past_from is_label_byte s i)) (omega (arith, past_within is_label_byte s i (omega arith)))

  -- a dot: others follow
  module _ (d : byte_at s e ≡ 46) where
    -- the dot stands in the text
    pub dot_within : e < length s
    dot_within = byte_within s e d (omega arith)

    -- the bytes of names go on behind it
    pub dot_end : past is_name_byte s i ≡ past is_name_byte s (e + 1)
    dot_end = name_end ∙ past_on is_name_byte s e dot_within (ap is_name_byte (sym (byte_there s e dot_within) ∙ d) ∙ dot_name)

    -- and so do the pieces
    dot_pieces : pieces 46 (front is_name_byte (drop i s)) ≡ part s i e ∷ pieces 46 (front is_name_byte (drop (e + 1) s))
    unfolding past
    dot_pieces =
        name_pieces (drop i s)
        ∙ rw (byte_behind, eq-eqb (byte_at s e) 46 d, part_run is_label_byte s i e p, drop-drop (suc (run is_label_byte (drop i s))) i s, behind)
      where
        behind : i + suc (run is_label_byte (drop i s)) ≡ e + 1
        behind = omega (arith, p)

    -- the piece is no label
    pub dot_off : (top : Bool) → is_label (part s i e) ≡ false → name_ends top (drop i s) ≡ false
    dot_off top w = rw dot_pieces (ends_off top (part s i e) _ (pieces_some 46 _) w)

    -- it is one
    pub dot_on : (top next : Bool) → is_label (part s i e) ≡ true → next ≡ is_top_label (part s i e)
        → name_ends top (drop i s) ≡ name_ends next (drop (e + 1) s)
    dot_on top next w q = rw (dot_pieces, q) (ends_on top (part s i e) _ (pieces_some 46 _) w)

-- at the end of the text nothing is left
pub name_none : (top : Bool) (s : List ℕ) (i : ℕ) → length s ≤ i → name_ends top (drop i s) ≡ top
unfolding front run pieces is_end empty
name_none top s i h = rw (drop_of_length-le s h)
