use Rattle.worlds.proofs.Scaling.{none_high}
use Rattle.worlds.proofs.scales.scale_of.Goals as goal

pub returns : goal.returns
returns c = record {
  value = (
    c.below.ensures.value,
    (
      c.below-2.ensures.value,
      (
        c.below-3.ensures.value,
        (
          c.below-4.ensures.value,
          (
            c.below-5.ensures.value,
            (
              c.below-6.ensures.value,
              (
                c.below-7.ensures.value,
                (
                  c.below-8.ensures.value,
                  (
                    c.below-9.ensures.value,
                    (
                      c.below-10.ensures.value,
                      (
                        c.below-11.ensures.value,
                        (
                          c.below-12.ensures.value,
                          (
                            c.below-13.ensures.value,
                            (
                              c.below-14.ensures.value,
                              (
                                c.below-15.ensures.value,
                                (
                                  c.below-16.ensures.value,
                                  (
                                    c.below-17.ensures.value,
                                    none_high c.args.blocks.now c.args.measure c.requires.on_board,
                                  ),
                                ),
                              ),
                            ),
                          ),
                        ),
                      ),
                    ),
                  ),
                ),
              ),
            ),
          ),
        ),
      ),
    ),
  );
}
