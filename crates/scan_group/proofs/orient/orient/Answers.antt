-- `orient` meets its contract: a sound state says that the tables fit.
use Rattle.std.proofs.Common.{refl}
use Rattle.scan_group.proofs.SoundTables.{sound_at}
use Rattle.scan_group.proofs.orient.orient.Goals.{then-s, else-s}
use Rattle.scan_group.proofs.orient.orient.Goals as goal

pub invariant_of-new : goal.invariant_of-new
invariant_of-new c =
    let sound = sound_at _ _ _ _ _ _ c.current_first.ensures.current c.current_first.ensures.other c.requires in
    let new = sound.rehashing c.if-s.true in
    record { legal = new.new_legal; buckets_fit = new.new_fits }

pub invariant_of-entries : goal.invariant_of-entries
invariant_of-entries c =
    let sound = sound_at _ _ _ _ _ _ c.current_first.ensures.current c.current_first.ensures.other c.requires in
    record { entries_fit = sound.entries_fit }

pub invariant_of-old : goal.invariant_of-old
invariant_of-old c =
    let sound = sound_at _ _ _ _ _ _ c.current_first.ensures.current c.current_first.ensures.other c.requires in
    record { legal = sound.old_legal; buckets_fit = sound.old_fits }

pub returns : goal.returns
returns c =
    let sound = sound_at _ _ _ _ _ _ c.current_first.ensures.current c.current_first.ensures.other c.requires in
    record {
      fields_are = refl;
      capacity_is = refl;
      old_is = record { buckets_are = c.current_first.ensures.current; size_is = refl; used_is = refl };
      new_is =
          elim c.if-s.branch [
            | then-s w ↦
                rw w.new-is
                (record {
                  rehashing = w.if-s.true;
                  is_table = record { buckets_are = c.current_first.ensures.other; size_is = refl; used_is = refl };
                  sizes_differ = (sound.rehashing w.if-s.true).sizes_differ;
                })
            | else-s w ↦ rw w.new-is w.if-s.false
          ];
      keys_fit = sound.used_fits;
    }
