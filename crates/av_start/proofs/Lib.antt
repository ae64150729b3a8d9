mod Missing
