mod NewInputs
